use Rattle.std.proofs.Common.{◌≤◌, ◌+◌, ◌^◌, ◌++◌}
use Rattle.gm_split.specs.Opening.{own_pieces, child_pieces}
use Rattle.gm_split.specs.Front.{Takes}
use Rattle.gm_split.proofs.opening.open_node.Given as goal

abbrev pub invariant-loop-q : goal.invariant-loop-q
invariant-loop-q g l = let s = g.T.Tree.shape l.tree in record {
  within : l.q ≤ 2 ^ g.row.D;
  steps : l.steps ≤ l.fn.steps + l.q;
  took : Takes s (own_pieces (s.own l.node) ++ child_pieces g.row.D s l.windows l.node l.q)
      l.fn.into l.into;
}
