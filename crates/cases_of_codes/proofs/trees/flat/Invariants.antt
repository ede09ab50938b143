use Rattle.cases_of_codes.proofs.trees.flat.Given as goal

abbrev pub invariant-loop-q : goal.invariant-loop-q
invariant-loop-q g l = g.T.Tree.Comes l.tree l.node
