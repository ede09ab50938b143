use Rattle.std.proofs.Common.{add-one}
use Rattle.gm_shapes.proofs.Walks.{next_odd, crossings_left}
use Rattle.gm_shapes.proofs.polygon.crosses_oddly_from.Goals as goal

pub points-preserved : goal.points-preserved
points-preserved c =
    rw add-one (rw c.is_crossed-odd.ensures
    (next_odd _ _ _ _ _ c.points.invariant
    (crossings_left c.args.p c.points.start c.args.points.now c.points.point-index _
    c.points-test.true)))
