use Rattle.std.proofs.Common.{◌≡◌, false, take}
use Rattle.std.specs.List.{list_any}
use Rattle.gm_geom.specs.Geometry.{joined}
use Rattle.gm_shapes.proofs.vertex.any_corner.Given as goal

abbrev pub invariant-areas : goal.invariant-areas
invariant-areas g l =
    list_any (g.R.Region.held l.region) (joined (joined (take l.rings-index l.rings-items))) ≡ false
