use Rattle.std.proofs.Common.{◌≡◌, false, map, take}
use Rattle.std.specs.List.{list_any}
use Rattle.gm_shapes.specs.Edge.{lone_edge}
use Rattle.gm_shapes.proofs.edge.any_lone.Given as goal

abbrev pub invariant-points : goal.invariant-points
invariant-points g l =
    list_any (g.S.Shape.met l.shape) (map lone_edge (take l.point-index l.points)) ≡ false
