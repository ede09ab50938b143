use Rattle.gm_shapes.proofs.Overlap.{edge_apart}
use Rattle.gm_shapes.proofs.closed_box.ClosedBoxShape.meets.Goals as goal

pub returns-else-do_overlap : goal.returns-else-do_overlap
returns-else-do_overlap c =
    edge_apart c.args.edge c.box_of.result c.args.self.now.area c.do_overlap.result
    c.args.self.now.across c.args.self.now.along c.box_of.ensures c.do_overlap.ensures
    c.if-do_overlap.false
