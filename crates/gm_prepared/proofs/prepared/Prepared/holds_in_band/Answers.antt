use Rattle.std.proofs.Common.{◌≡◌, ◌<◌, true, not, length, ap, ◌∙◌, arith}
use Rattle.std.proofs.lemmas.Int.{ints}
use mir.Val.{to_z, of_z}
use Rattle.std.specs.Int.{w32}
use Rattle.gm_geom.specs.Geometry.{areas_of}
use Rattle.gm_geom.specs.Validity.{is_empty}
use Rattle.gm_shapes.specs.Meeting.{is_in_any}
use Rattle.gm_prepared.specs.Area.{is_held}
use Rattle.gm_prepared.specs.Band.{band_at}
use Rattle.gm_prepared.proofs.Meets.{apart_point, held_in_band}
use Rattle.gm_prepared.proofs.prepared.Prepared.holds_in_band.Goals as goal

pub returns-then-is_in_box : goal.returns-then-is_in_box
returns-then-is_in_box c =
    let some : not (is_empty (areas_of c.self.inside.geometry)) ≡ true =
    ap (λ g. not (is_empty (areas_of g))) c.self.view_is ∙ c.requires in
    let height : to_z w32 (of_z w32 c.args.p.y) ≡ c.args.p.y = omega (arith, ints) in
    let within : c.band_at.result < length c.self.inside.lists.items = omega arith in
    held_in_band c.self.inside.geometry c.self.inside.bounds c.self.inside.lists.items c.args.p
    c.band_at.result c.index.result.now c.is_in_box.result c.is_held.result
    c.self.invariant some
    c.is_in_box.ensures c.if-is_in_box.true
    (c.band_at.ensures.value ∙ ap (band_at c.self.inside.bounds) height) within c.index.ensures
    (c.is_held.ensures ∙ ap (is_held c.args.p _ _) c.as_slice.ensures)
    ∙ ap (λ g. is_in_any (areas_of g) c.args.p) c.self.view_is

pub returns-else-is_in_box : goal.returns-else-is_in_box
returns-else-is_in_box c =
    apart_point c.self.inside.bounds c.args.p (is_in_any (areas_of c.self.inside.geometry) c.args.p)
    c.is_in_box.result
    (c.lies_in_bounds_where_in_area.ensures c.args.p c.self.inside.geometry c.self.inside.bounds
    c.self.invariant.kept c.self.invariant.held)
    c.is_in_box.ensures c.if-is_in_box.false
    ∙ ap (λ g. is_in_any (areas_of g) c.args.p) c.self.view_is
