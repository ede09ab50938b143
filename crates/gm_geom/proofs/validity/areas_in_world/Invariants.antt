use Rattle.std.proofs.Common.{◌≡◌, true, take}
use Rattle.std.specs.List.{list_all}
use Rattle.gm_geom.specs.Geometry.{joined}
use Rattle.gm_geom.specs.Validity.{is_in_world}
use Rattle.gm_geom.proofs.validity.areas_in_world.Given as goal

abbrev pub invariant-areas : goal.invariant-areas
invariant-areas l = list_all is_in_world (joined (joined (take l.rings-index l.rings-items))) ≡ true
