use Rattle.std.proofs.Common.{ap, ◌∙◌}
use Rattle.gm_base.proofs.Booleans.{fails_with}
use Rattle.gm_shapes.specs.Segment.{do_overlap}
use Rattle.gm_shapes.specs.Meeting.{do_intersect, box_area}
use Rattle.gm_prepared.proofs.prepared.Prepared.meets_box.Goals as goal

pub returns-else-do_overlap : goal.returns-else-do_overlap
returns-else-do_overlap c =
    fails_with (do_overlap c.self.inside.bounds c.args.area)
    (do_intersect c.self.inside.geometry (box_area c.args.area)) c.do_overlap.result
    (c.overlaps_a_box_it_meets.ensures c.self.inside.geometry c.self.inside.bounds c.args.area
    c.self.invariant.kept c.self.invariant.held c.requires.across c.requires.along)
    c.do_overlap.ensures c.if-do_overlap.false
    ∙ ap (λ g. do_intersect g (box_area c.args.area)) c.self.view_is
