use Rattle.gm_shapes.proofs.Overlap.{apart}
use Rattle.gm_shapes.proofs.meeting.intersects.Goals as goal

pub returns-else-do_overlap : goal.returns-else-do_overlap
returns-else-do_overlap c =
    apart c.args.one.now c.args.two.now c.of-one.result.bounds c.of-two.result.bounds
    c.do_overlap.result c.requires.one_kept c.requires.two_kept c.of-one.ensures.held
    c.of-two.ensures.held c.do_overlap.ensures c.if-do_overlap.false
