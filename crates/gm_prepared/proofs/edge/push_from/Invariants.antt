use Rattle.std.proofs.Common.{◌≡◌, ◌++◌, drop}
use Rattle.gm_shapes.specs.Edge.{edges_from}
use Rattle.gm_prepared.specs.Edge.{tagged}
use Rattle.gm_prepared.proofs.edge.push_from.Given as goal

abbrev pub invariant-points : goal.invariant-points
invariant-points l =
    l.edges ++ tagged l.area (edges_from l.start (drop l.point-index l.points))
    ≡ l.initial.edges ++ tagged l.area (edges_from l.initial.start l.points)
