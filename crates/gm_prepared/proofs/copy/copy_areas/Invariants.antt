use Rattle.std.proofs.Common.{◌≡◌, take}
use Rattle.gm_prepared.proofs.copy.copy_areas.Given as goal

abbrev pub invariant-areas : goal.invariant-areas
invariant-areas l = l.same ≡ take l.rings-index l.rings-items
