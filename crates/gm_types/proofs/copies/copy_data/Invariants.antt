use Rattle.std.proofs.Common.{◌≡◌, take}
use Rattle.gm_types.proofs.copies.copy_data.Given as goal

abbrev pub invariant-loop-datum : goal.invariant-loop-datum
invariant-loop-datum l = l.copies ≡ take l.datum-index l.list
