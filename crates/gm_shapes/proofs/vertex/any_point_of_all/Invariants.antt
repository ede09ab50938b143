use Rattle.std.proofs.Common.{◌≡◌, false, take}
use Rattle.std.specs.List.{list_any}
use Rattle.gm_geom.specs.Geometry.{joined}
use Rattle.gm_shapes.proofs.vertex.any_point_of_all.Given as goal

abbrev pub invariant-lines : goal.invariant-lines
invariant-lines g l =
    list_any (g.R.Region.held l.region) (joined (take l.line-index l.lines)) ≡ false
