use Rattle.std.proofs.Common.{arith}
use Rattle.std.proofs.lemmas.Grind.{common_steps}
use Rattle.gm_shapes.specs.Meeting.{do_intersect, box_area}
use Rattle.gm_shapes.specs.Segment.{do_overlap}
use Rattle.gm_filter.proofs.Seen.{fails_with}
use Rattle.gm_filter.proofs.stored_meeting.reaches_area.Goals as goal

pub returns-then-not-do_overlap : goal.returns-then-not-do_overlap
returns-then-not-do_overlap c = λ g is.
    let bounds = c.args.geometry.now.bounds in
    let area = c.args.area in
    fails_with (do_overlap bounds area) (do_intersect g (box_area area)) c.do_overlap.result
    (λ met. c.overlaps_a_box_it_meets.ensures g bounds area is.kept is.least.holds c.requires.0
    c.requires.1 met)
    c.do_overlap.ensures (grind (arith, common_steps))
