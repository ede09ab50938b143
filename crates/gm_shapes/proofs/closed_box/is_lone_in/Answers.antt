use Rattle.std.proofs.Common.{◌∙◌}
use Rattle.gm_shapes.proofs.Overlap.{point_in_box}
use Rattle.gm_shapes.proofs.closed_box.is_lone_in.Goals as goal

pub returns : goal.returns
returns c = c.is_in_box.ensures
    ∙ point_in_box c.args.point c.args.closed.now.area c.args.closed.now.across
    c.args.closed.now.along
