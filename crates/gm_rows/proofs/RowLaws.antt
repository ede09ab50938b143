-- A printed row is read as its feature.
use Rattle.std.specs.Prelude.{int_le, neg_ℤ, ◌^◌, ◌≤◌, map, ◌&&◌, nat_le, Ok, Err, is_none}
use Rattle.std.specs.Prelude.{take, if◌then◌else◌}
use Rattle.std.proofs.Common.{◌≡◌, ◌≢◌, ◌==◌, ◌<◌, ◌∷◌, ◌∙◌, [], ℕ, ℤ, pos, negsuc, List, Bool}
use Rattle.std.proofs.Common.{Option, Some, None, length, refl, sym, ap, true, false, inl, inr}
use Rattle.std.proofs.Common.{arith}
use Rattle.std.specs.List.{list_all, list_any}
use Rattle.std.specs.Fmt.{signed_decimal}
use Rattle.std.specs.Str.{is_utf8}
use Rattle.std.proofs.lemmas.Bool.{cases_Bool, eqb-true, and_parts, eq-eqb, leb-true, false≢true}
use Rattle.std.proofs.lemmas.Bool.{or_from}
use Rattle.gm_base.proofs.Numbers.{le_from}
use Rattle.gm_base.specs.Identifier.{is_identifier, has_identifier_form, is_printable}
use Rattle.gm_calendar.specs.Instant.{IsInstant, is_instant, ms_before_1970, last_instant}
use Rattle.gm_calendar.specs.Spelling.{instant_text, instant_of, is_instant_byte, has_date_form}
use Rattle.gm_feature.specs.declared.feature.Feature.{Feature}
use Rattle.gm_feature.specs.declared.value.Value.{Value}
use Rattle.gm_feature.specs.declared.value.Value.TheVariants as value
use Rattle.gm_feature.specs.Feature.{Fits, values_fit}
use Rattle.gm_feature.specs.Value.{value_fits, is_of_kind, is_sound, has_text_form, is_below}
use Rattle.gm_feature.specs.Value.{is_no_zero}
use Rattle.gm_geom.specs.declared.geometry.Geometry.{Geometry}
use Rattle.gm_geom.specs.Validity.{fault_of}
use Rattle.gm_types.specs.declared.kind.Kind.{Kind}
use Rattle.gm_types.specs.declared.kind.Kind.TheVariants as kind
use Rattle.gm_types.specs.Specification.{Specification, kinds_of}
use Rattle.gm_wkt.specs.Answer.{answer_of}
use Rattle.gm_wkt.specs.Printer as wkt
use Rattle.gm_rows.specs.declared.fault.RowFault.TheVariants as fault
use Rattle.gm_rows.specs.Lines.{IsOnOneLine, AreOnOneLine}
use Rattle.gm_rows.specs.Printer.{has_line_feed, HaveNoLineFeed, field_of, row_text}
use Rattle.gm_rows.specs.Reader.{is_within, read_as, shaped, value_of, value_of_some, values_of}
use Rattle.gm_rows.specs.Reader.{joined, before, feature_if, feature_from, feature_of_record}
use Rattle.gm_rows.specs.Reader.{row_of}
use Rattle.gm_rows.proofs.Numbers.{reads_again, no_feed_in_number, number_is_some}
use mir.Syntax.{w32, w64}
use mir.Val.{hbits}
use Rattle.gm_rows.proofs.Printed.{read_record}

-- what is known of printed dates and geometries
pub record Known : Type 0 where
  pub date_read : (at : ℤ) → IsInstant at → instant_of (instant_text at) ≡ Some at
  pub date_bytes : (at : ℤ) → IsInstant at → list_all is_instant_byte (instant_text at) ≡ true
  pub date_form : (at : ℤ) → IsInstant at → has_date_form (take 10 (instant_text at)) ≡ true
  pub geometry_read : (g : Geometry) → fault_of g ≡ None → answer_of (wkt.printed g) ≡ Ok g
  pub geometry_some : (g : Geometry) → fault_of g ≡ None → 0 < length (wkt.printed g)
  pub geometry_line : (g : Geometry) → fault_of g ≡ None
      → list_any (λ byte. byte == 10) (wkt.printed g) ≡ false

short_32 : 2 ^ hbits w32 ≤ 2 ^ 63
short_32 = omega arith

short_64 : 2 ^ hbits w64 ≤ 2 ^ 63
short_64 = omega arith

-- a field that is not empty
some_field : (k : Kind) (field : List ℕ) → 0 < length field
    → value_of k field ≡ value_of_some k field
some_field k [] some = absurd (omega (arith, some))
some_field k (b ∷ rest) some = refl

below_32 : (z : ℤ) → is_below (2 ^ 31) z ≡ true → is_within (hbits w32) z ≡ true
below_32 (pos n) h = h
below_32 (negsuc n) h = h

below_64 : (z : ℤ) → is_below (2 ^ 63) z ≡ true → is_within (hbits w64) z ≡ true
below_64 (pos n) h = h
below_64 (negsuc n) h = h

text_some : (text : List ℕ) → has_text_form text ≡ true → 0 < length text
text_some text h =
    let parts = and_parts (nat_le 1 (length text) && nat_le (length text) 1048576)
    (list_all is_no_zero text) h in
    let long = leb-true 1 (length text)
    (and_parts (nat_le 1 (length text)) (nat_le (length text) 1048576) parts.0).0 in
    omega (arith, long)

is_the_instant : (at : ℤ) → is_instant at ≡ true → IsInstant at
is_the_instant at h =
    let tests = and_parts (int_le (neg_ℤ (pos ms_before_1970)) at)
    (int_le at (pos last_instant)) h in
    (le_from (neg_ℤ (pos ms_before_1970)) at tests.0, le_from at (pos last_instant) tests.1)

no_fault : (g : Geometry) → is_none (fault_of g) ≡ true → fault_of g ≡ None
no_fault g h = go (fault_of g) refl h
  where
    go : (o : Option _) → fault_of g ≡ o → is_none o ≡ true → fault_of g ≡ None
    go None e h = e
    go (Some f) e h = absurd (false≢true h)

date_some : (text : List ℕ) → has_date_form (take 10 text) ≡ true → 0 < length text
date_some [] h = absurd (false≢true h)
date_some (b ∷ text) h = omega arith

-- each value's field is read as it
field_read : Known → (k : Kind) (v : Value) → is_of_kind k v ≡ true → is_sound v ≡ true
    → value_of k (field_of v) ≡ Ok v
field_read known k value.Null h s = refl
field_read known kind.Text (value.Text text) h s =
    let parts = and_parts (is_utf8 text) (has_text_form text) s in
    some_field kind.Text text (text_some text parts.1)
    ∙ ap (λ b. read_as value.Text (if b then Some text else None)) s
field_read known kind.Integer (value.Integer z) h s =
    let within = below_32 z s in
    some_field kind.Integer (signed_decimal z) (number_is_some w32 z short_32 within)
    ∙ ap (read_as value.Integer) (reads_again w32 z short_32 within)
field_read known kind.Long (value.Long z) h s =
    let within = below_64 z s in
    some_field kind.Long (signed_decimal z) (number_is_some w64 z short_64 within)
    ∙ ap (read_as value.Long) (reads_again w64 z short_64 within)
field_read known kind.Boolean (value.Boolean true) h s = refl
field_read known kind.Boolean (value.Boolean false) h s = refl
field_read known kind.Date (value.Date at) h s =
    let is = is_the_instant at s in
    some_field kind.Date (instant_text at) (date_some (instant_text at) (known.date_form at is))
    ∙ ap (read_as value.Date) (known.date_read at is)
field_read known (kind.Geo shape) (value.Geo g) h s =
    let none = no_fault g s in
    some_field (kind.Geo shape) (wkt.printed g) (known.geometry_some g none)
    ∙ ap (shaped shape) (known.geometry_read g none)
    ∙ ap (λ b. if b then Ok (value.Geo g) else Err fault.Geometry) h
field_read known _ _ h s = absurd (false≢true h)

fields_read : Known → (kinds : List Kind) (values : List Value) → values_fit kinds values ≡ true
    → values_of kinds (map field_of values) ≡ Ok values
unfolding values_of
fields_read known [] [] h = refl
fields_read known [] (v ∷ values) h = absurd (false≢true h)
fields_read known (k ∷ kinds) [] h = absurd (false≢true h)
fields_read known (k ∷ kinds) (v ∷ values) h =
    let parts = and_parts (value_fits k v) (values_fit kinds values) h in
    let one = and_parts (is_of_kind k v) (is_sound v) parts.0 in
    ap (λ r. joined r (values_of kinds (map field_of values))) (field_read known k v one.0 one.1)
    ∙ ap (before v) (fields_read known kinds values parts.1)

same_length : (kinds : List Kind) (values : List Value) → values_fit kinds values ≡ true
    → length (map field_of values) ≡ length kinds
same_length [] [] h = refl
same_length [] (v ∷ values) h = absurd (false≢true h)
same_length (k ∷ kinds) [] h = absurd (false≢true h)
same_length (k ∷ kinds) (v ∷ values) h =
    let rest = same_length kinds values
    (and_parts (value_fits k v) (values_fit kinds values) h).1 in omega (arith, rest)

-- bytes that pass a test that 0x0A does not pass
no_feed_among : (test : ℕ → Bool) → test 10 ≡ false → (bytes : List ℕ) → list_all test bytes ≡ true
    → has_line_feed bytes ≡ false
no_feed_among test low [] h = refl
no_feed_among test low (b ∷ bytes) h =
    let parts = and_parts (test b) (list_all test bytes) h in
    or_from (b == 10) (has_line_feed bytes)
    (elim (cases_Bool (b == 10)) [
      | inl e ↦ absurd (false≢true (sym low ∙ ap test (sym (eqb-true b 10 e)) ∙ parts.0))
      | inr e ↦ e
    ])
    (no_feed_among test low bytes parts.1)

no_feed : Known → (v : Value) → is_sound v ≡ true → IsOnOneLine v
    → has_line_feed (field_of v) ≡ false
no_feed known value.Null s l = refl
no_feed known (value.Text text) s l = l
no_feed known (value.Integer z) s l = no_feed_in_number w32 z short_32 (below_32 z s)
no_feed known (value.Long z) s l = no_feed_in_number w64 z short_64 (below_64 z s)
no_feed known (value.Boolean true) s l = refl
no_feed known (value.Boolean false) s l = refl
no_feed known (value.Date at) s l =
    no_feed_among is_instant_byte refl (instant_text at) (known.date_bytes at (is_the_instant at s))
no_feed known (value.Geo g) s l = known.geometry_line g (no_fault g s)

no_feeds : Known → (kinds : List Kind) (values : List Value) → values_fit kinds values ≡ true
    → AreOnOneLine values → HaveNoLineFeed (map field_of values)
no_feeds known [] [] h l = tt
no_feeds known [] (v ∷ values) h l = absurd (false≢true h)
no_feeds known (k ∷ kinds) [] h l = absurd (false≢true h)
no_feeds known (k ∷ kinds) (v ∷ values) h l =
    let parts = and_parts (value_fits k v) (values_fit kinds values) h in (
      no_feed known v (and_parts (is_of_kind k v) (is_sound v) parts.0).1 l.0,
      no_feeds known kinds values parts.1 l.1,
    )

id_parts : (id : List ℕ) → is_identifier id ≡ true → (id ≢ []) × (has_line_feed id ≡ false)
id_parts id e =
    let form = (and_parts (is_utf8 id) (has_identifier_form id) e).1 in
    let parts = and_parts (nat_le 1 (length id) && nat_le (length id) 128)
    (list_all is_printable id) form in
    let long = leb-true 1 (length id)
    (and_parts (nat_le 1 (length id)) (nat_le (length id) 128) parts.0).0 in
    (λ none. omega (arith, long, ap length none), no_feed_among is_printable refl id parts.1)

-- a printed row is read as its feature
pub row_read : Known → (t : Specification) (feature : Feature) → Fits t feature
    → AreOnOneLine feature.values → row_of t (row_text feature) ≡ Ok feature
row_read known t feature fits line =
    let id = id_parts feature.id fits.identifier in
    let fields = map field_of feature.values in
    ap (feature_of_record t)
    (read_record feature.id fields id.0
    (id.1, no_feeds known (kinds_of t) feature.values fits.each line))
    ∙ ap (λ b. if b then feature_from t feature.id (values_of (kinds_of t) fields)
    else Err fault.Count)
    (eq-eqb (length fields) (length (kinds_of t))
    (same_length (kinds_of t) feature.values fits.each))
    ∙ ap (feature_from t feature.id) (fields_read known (kinds_of t) feature.values fits.each)
    ∙ ap (λ b. feature_if b feature.id feature.values) fits.date
    ∙ ap (λ b. if b then Ok feature else Err fault.Id) fits.identifier
