use Rattle.std.proofs.Common.{◌≡◌, drop}
use Rattle.std.specs.List.{list_any}
use Rattle.gm_shapes.specs.Edge.{edges_from}
use Rattle.gm_shapes.proofs.edge.any_from.Given as goal

abbrev pub invariant-points : goal.invariant-points
invariant-points g l =
    list_any (g.S.Shape.met l.shape) (edges_from l.initial.start l.points)
    ≡ list_any (g.S.Shape.met l.shape) (edges_from l.start (drop l.point-index l.points))
