use Rattle.gm_geom.specs.Extent.{widened}
use Rattle.std.proofs.Common.{refl}
use Rattle.gm_feature.specs.Reader.{point_from}
use Rattle.gm_feature.proofs.Widening.{by_points, points_more, owes_start, owes_on, owes_done}
use Rattle.gm_feature.proofs.spans.by_many_points.Goals as goal

pub members-init : goal.members-init
members-init c =
    λ x e. owes_start point_from by_points c.args.count c.args.extent c.args.bytes.now x e

pub members-preserved : goal.members-preserved
members-preserved c = λ x e.
    owes_on point_from by_points widened points_more c.args.count c.members.counter c.members.extent
    c.by_point-wider.result.0 c.members.rest.now c.by_point-wider.result.1.now
    (by_points c.args.extent x.0) x.1 c.members-test.true c.by_point-wider.ensures
    (c.members.invariant x e)

pub returns : goal.returns
returns c = λ x e.
    owes_done point_from by_points (λ e. refl) c.args.count c.members.counter c.members.extent
    c.members.rest.now (by_points c.args.extent x.0) x.1
    c.members-test.false (c.members.invariant x e)
