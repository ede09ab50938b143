use Rattle.std.proofs.Common.{◌∙◌, sym}
use Rattle.gm_prepared.proofs.Meets.{no_vertex_in}
use Rattle.gm_prepared.proofs.prepared.Prepared.has_own_vertex_in.Goals as goal

pub returns-else-has_area : goal.returns-else-has_area
returns-else-has_area c =
    c.if-has_area.false
    ∙ no_vertex_in c.args.self.now c.args.other.now.geometry.now
    (sym c.has_area.ensures ∙ c.if-has_area.false)
