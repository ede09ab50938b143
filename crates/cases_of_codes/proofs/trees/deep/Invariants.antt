use Rattle.cases_of_codes.proofs.trees.deep.Given as goal

abbrev pub invariant-loop-q : goal.invariant-loop-q
invariant-loop-q g l = g.T.Tree.Comes l.tree l.node
