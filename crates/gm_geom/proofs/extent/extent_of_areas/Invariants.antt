use Rattle.std.proofs.Common.{◌≡◌, take}
use Rattle.gm_geom.specs.Extent.{extent_of}
use Rattle.gm_geom.specs.Geometry.{joined}
use Rattle.gm_geom.proofs.extent.extent_of_areas.Given as goal

abbrev pub invariant-areas : goal.invariant-areas
invariant-areas l = l.extent ≡ extent_of (joined (joined (take l.rings-index l.rings-items)))
