use Rattle.std.proofs.Common.{◌≡◌, drop}
use Rattle.std.specs.List.{count_by}
use Rattle.gm_shapes.specs.Edge.{edges_from}
use Rattle.gm_shapes.specs.Polygon.{is_odd, crosses}
use Rattle.gm_shapes.proofs.Walks.{xor}
use Rattle.gm_shapes.proofs.polygon.crosses_oddly_from.Given as goal

abbrev pub invariant-points : goal.invariant-points
invariant-points l =
    is_odd (count_by (crosses l.p) (edges_from l.initial.start l.points))
    ≡ xor l.odd (is_odd
    (count_by (crosses l.p) (edges_from l.start (drop l.point-index l.points))))
