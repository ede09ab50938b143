use Rattle.std.proofs.Common.{◌≡◌, take}
use Rattle.gm_feature.proofs.shape.copy_areas.Given as goal

abbrev pub invariant-areas : goal.invariant-areas
invariant-areas l = l.copies.items ≡ take l.rings-index l.areas
