use Rattle.std.proofs.Common.{◌≡◌, ◌++◌, None, map, drop}
use Rattle.gm_shapes.specs.Edge.{lone_edge}
use Rattle.gm_prepared.specs.Edge.{tagged}
use Rattle.gm_prepared.proofs.edge.push_lone.Given as goal

abbrev pub invariant-points : goal.invariant-points
invariant-points l =
    l.edges ++ tagged None (map lone_edge (drop l.point-index l.points))
    ≡ l.initial.edges ++ tagged None (map lone_edge l.points)
