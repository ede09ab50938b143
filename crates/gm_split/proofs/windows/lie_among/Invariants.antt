use Rattle.gm_split.proofs.Near.{Looked}
use Rattle.gm_split.proofs.windows.lie_among.Given as goal

abbrev pub invariant-loop-left : goal.invariant-loop-left
invariant-loop-left g l = Looked g.row.D l.windows l.reach l.left l.near

abbrev pub decreases-loop-left : goal.decreases-loop-left
decreases-loop-left g l = l.left
