use Rattle.std.proofs.Common.{◌∙◌, sym}
use Rattle.gm_shapes.proofs.Swaps.{no_vertex_in}
use Rattle.gm_shapes.proofs.meeting.has_vertex_in.Goals as goal

pub returns-else-has_area : goal.returns-else-has_area
returns-else-has_area c =
    c.if-has_area.false
    ∙ no_vertex_in c.args.one.now.geometry.now c.args.two.now.geometry.now
    (sym c.has_area.ensures ∙ c.if-has_area.false)
