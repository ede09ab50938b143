use Rattle.std.proofs.Common.{◌≡◌, true, false, not, sym, ap, ◌∙◌}
use Rattle.gm_geom.specs.declared.geometry.Geometry.TheVariants as geo
use Rattle.gm_geom.specs.Geometry.{areas_of}
use Rattle.gm_geom.specs.Validity.{is_empty}
use Rattle.gm_prepared.proofs.Meets.{point_in_area, point_on_edge}
use Rattle.gm_prepared.proofs.prepared.Prepared.meets_point.Goals as goal

pub returns-then-has_area : goal.returns-then-has_area
returns-then-has_area c =
    let some : not (is_empty (areas_of c.args.self.now)) ≡ true =
    sym (ap (λ g. not (is_empty (areas_of g))) c.self.view_is) ∙ sym c.has_area.ensures
    ∙ c.if-has_area.true in
    c.holds.ensures ∙ point_in_area c.args.p c.args.self.now some
    ∙ c.meeting_is_symmetric.ensures (geo.Point c.args.p) c.args.self.now

pub returns-else-has_area : goal.returns-else-has_area
returns-else-has_area c =
    let none : not (is_empty (areas_of c.args.self.now)) ≡ false =
    sym (ap (λ g. not (is_empty (areas_of g))) c.self.view_is) ∙ sym c.has_area.ensures
    ∙ c.if-has_area.false in
    c.meets.ensures ∙ point_on_edge c.args.p c.args.self.now none
    ∙ c.meeting_is_symmetric.ensures (geo.Point c.args.p) c.args.self.now
