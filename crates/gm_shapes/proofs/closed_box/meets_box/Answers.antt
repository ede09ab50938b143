use Rattle.gm_shapes.proofs.Overlap.{apart_box}
use Rattle.gm_shapes.proofs.closed_box.meets_box.Goals as goal

pub returns-else-do_overlap : goal.returns-else-do_overlap
returns-else-do_overlap c =
    apart_box c.args.geometry.now c.of-geometry.result.bounds c.args.area c.do_overlap.result
    c.requires.kept c.of-geometry.ensures.held c.requires.across c.requires.along
    c.do_overlap.ensures c.if-do_overlap.false
