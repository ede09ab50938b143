use Rattle.std.proofs.Common.{◌≡◌, false, take}
use Rattle.std.specs.List.{list_any}
use Rattle.gm_shapes.proofs.vertex.any_point.Given as goal

abbrev pub invariant-points : goal.invariant-points
invariant-points g l = list_any (g.R.Region.held l.region) (take l.point-index l.points) ≡ false
