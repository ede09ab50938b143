use Rattle.std.proofs.Common.{◌∙◌}
use Rattle.gm_shapes.proofs.Overlap.{area_of_box}
use Rattle.gm_shapes.proofs.closed_box.ClosedBoxRegion.holds.Goals as goal

pub returns : goal.returns
returns c = c.is_in_box.ensures
    ∙ area_of_box c.args.p c.args.self.now.area c.args.self.now.across c.args.self.now.along
