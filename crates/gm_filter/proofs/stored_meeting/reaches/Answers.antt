use Rattle.std.proofs.Common.{arith}
use Rattle.std.proofs.lemmas.Grind.{common_steps}
use Rattle.gm_shapes.specs.Meeting.{do_intersect}
use Rattle.gm_shapes.specs.Segment.{do_overlap}
use Rattle.gm_filter.proofs.Seen.{fails_with}
use Rattle.gm_filter.proofs.stored_meeting.reaches.Goals as goal

pub returns-then-not-do_overlap : goal.returns-then-not-do_overlap
returns-then-not-do_overlap c = λ g is.
    let one = c.args.geometry.now.bounds in
    let other = c.bounds.result in
    fails_with (do_overlap one other) (do_intersect g c.args.other.now) c.do_overlap.result
    (λ met. c.overlaps_where_meeting.ensures g c.args.other.now one other is.kept c.requires
    is.least.holds c.bounds.ensures.least.holds met)
    c.do_overlap.ensures (grind (arith, common_steps))
