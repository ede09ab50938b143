use Rattle.std.proofs.Common.{◌≡◌, ◌++◌, ℤ, FitsSigned, w32, w64, refl, ap, sym, ◌∙◌, rules}
use Rattle.std.specs.String.{string_bytes}
use Rattle.std.specs.Fmt.{signed_decimal}
use Rattle.std.proofs.lemmas.Int.{to_z-of_z}
use Rattle.std.proofs.lemmas.List.{append-nil}
use Rattle.gm_calendar.specs.Spelling.{instant_text, is_instant_byte}
use Rattle.gm_geom.specs.declared.geometry.Geometry.TheVariants as geo
use Rattle.gm_feature.specs.declared.value.Value.{Value}
use Rattle.gm_feature.specs.declared.value.Value.TheVariants as value
use Rattle.gm_feature.specs.Value.{is_sound}
use Rattle.gm_wkt.specs.Printer as wkt
use Rattle.gm_rows.specs.Printer.{printed, field_of}
use Rattle.gm_rows.proofs.Pushing.{pushed_as}
use Rattle.gm_rows.proofs.Unquoted.{unquoted}
use Rattle.gm_rows.proofs.stored.append_stored_value.Goals as goal

pub returns-in-Null-clause-text : goal.returns-in-Null-clause-text
returns-in-Null-clause-text c = λ v says sound.
    let is : v ≡ value.Null = rw c.in-Null.is at says in
    sym (ap (λ (u : Value). string_bytes c.args.row.now ++ printed (field_of u)) is
    ∙ append-nil (string_bytes c.args.row.now))

pub returns-in-Text-clause-text : goal.returns-in-Text-clause-text
returns-in-Text-clause-text c = λ v says sound.
    let text = c.in-Text.text.now in
    let is : v ≡ value.Text text = rw c.in-Text.is at says in
    let utf8 = c.stored_texts_are_utf8.ensures.text text (ap is_sound (sym is) ∙ sound) in
    pushed_as c.append_text.result (string_bytes c.args.row.now)
    (string_bytes c.append_text.new.row)
    (printed text) v (value.Text text) is refl (c.append_text.ensures.text utf8)

pub returns-in-Integer-clause-text : goal.returns-in-Integer-clause-text
returns-in-Integer-clause-text c = λ v says sound.
    let number = c.in-Integer.number in
    let is : v ≡ value.Integer number = rw c.in-Integer.is at says in
    let fits : FitsSigned w32 number = search rules in
    let same = ap (λ (z : ℤ). printed (signed_decimal z)) (to_z-of_z w32 number fits) in
    pushed_as c.append_integer.result (string_bytes c.args.row.now)
    (string_bytes c.append_integer.new.row) _ v (value.Integer number) is same
    c.append_integer.ensures.text

pub returns-in-Long-clause-text : goal.returns-in-Long-clause-text
returns-in-Long-clause-text c = λ v says sound.
    let number = c.in-Long.number in
    let is : v ≡ value.Long number = rw c.in-Long.is at says in
    let fits : FitsSigned w64 number = search rules in
    let same = ap (λ (z : ℤ). printed (signed_decimal z)) (to_z-of_z w64 number fits) in
    pushed_as c.append_long.result (string_bytes c.args.row.now)
    (string_bytes c.append_long.new.row) _
    v (value.Long number) is same c.append_long.ensures.text

pub returns-in-Boolean-clause-text : goal.returns-in-Boolean-clause-text
returns-in-Boolean-clause-text c = λ v says sound.
    let truth = c.in-Boolean.truth in
    let is : v ≡ value.Boolean truth = rw c.in-Boolean.is at says in
    pushed_as c.append_field.result (string_bytes c.args.row.now)
    (string_bytes c.append_field.new.row)
    (printed c.truth_text.result.now) v (value.Boolean truth) is
    (ap printed c.truth_text.ensures) c.append_field.ensures.text

pub returns-in-Date-clause-text : goal.returns-in-Date-clause-text
returns-in-Date-clause-text c = λ v says sound.
    let at = c.in-Date.at in
    let is : v ≡ value.Date at = rw c.in-Date.is at says in
    let instant = (c.instants_are_tested.ensures at).1 (ap is_sound (sym is) ∙ sound) in
    let plain = unquoted is_instant_byte
    (record { comma = refl; quote = refl; return = refl; mark = refl }) (instant_text at)
    (c.printed_instants_are_read.ensures.bytes at instant) in
    pushed_as c.append_instant.result (string_bytes c.args.row.now)
    (string_bytes c.append_instant.new.text) (instant_text at) v (value.Date at) is (sym plain)
    c.append_instant.ensures.text

pub returns-in-Point-clause-text : goal.returns-in-Point-clause-text
returns-in-Point-clause-text c = λ v says sound.
    let point = c.in-Point.point in
    let kept = rw c.in-Point.is at says in
    let text = wkt.printed (geo.Point point) in
    let plain = unquoted wkt.is_point_byte
    (record { comma = refl; quote = refl; return = refl; mark = refl }) text
    (c.points_are_plain.ensures point kept.0) in
    pushed_as c.append_point.result (string_bytes c.args.row.now)
    (string_bytes c.append_point.new.out) text v (value.Geo (geo.Point point)) kept.1
    (sym plain) c.append_point.ensures.text

pub returns-in-Geometry-clause-text : goal.returns-in-Geometry-clause-text
returns-in-Geometry-clause-text c = λ v says sound.
    let there = rw c.in-Geometry.is at says in
    let g = there.0 in
    pushed_as c.append_stored_geometry.result (string_bytes c.args.row.now)
    (string_bytes c.append_stored_geometry.new.row) (printed (wkt.printed g)) v (value.Geo g)
    there.2 refl (c.append_stored_geometry.ensures.text g there.1)
