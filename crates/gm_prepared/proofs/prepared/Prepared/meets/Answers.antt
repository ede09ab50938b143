use Rattle.std.proofs.Common.{ap, ◌∙◌}
use Rattle.gm_base.proofs.Booleans.{fails_with}
use Rattle.gm_shapes.specs.Segment.{do_overlap}
use Rattle.gm_shapes.specs.Meeting.{do_intersect}
use Rattle.gm_prepared.proofs.prepared.Prepared.meets.Goals as goal

pub returns-else-do_overlap : goal.returns-else-do_overlap
returns-else-do_overlap c =
    fails_with (do_overlap c.self.inside.bounds c.of-other.result.bounds)
    (do_intersect c.self.inside.geometry c.args.other.now) c.do_overlap.result
    (c.overlaps_where_meeting.ensures c.self.inside.geometry c.args.other.now c.self.inside.bounds
    c.of-other.result.bounds c.self.invariant.kept c.requires c.self.invariant.held
    c.of-other.ensures.held)
    c.do_overlap.ensures c.if-do_overlap.false
    ∙ ap (λ g. do_intersect g c.args.other.now) c.self.view_is
