use Rattle.std.proofs.Common.{◌≤◌, ◌+◌, ◌-◌, length}
use Rattle.gm_bounds.proofs.Risings.{HasWalked}
use Rattle.gm_bounds.proofs.identifiers.common.Given as goal

abbrev pub invariant-walk : goal.invariant-walk
invariant-walk l = record {
  ones_within : l.one ≤ length l.ones;
  others_within : l.other ≤ length l.others;
  walked : HasWalked l.ones l.others l.met.items l.one l.other;
}

abbrev pub decreases-walk : goal.decreases-walk
decreases-walk l = (length l.ones - l.one) + (length l.others - l.other)
