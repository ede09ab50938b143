-- A row that has nothing but commas for `csv` is cut at these.
use Rattle.std.proofs.Common.{◌≡◌, ◌<◌, ◌≤◌, ◌+◌, ◌-◌, ◌==◌, ◌++◌, ◌∷◌, ◌∙◌, [], ℕ, List, Some}
use Rattle.std.proofs.Common.{length, take, drop, get_or, refl, sym, ap, subst, true, false, zero}
use Rattle.std.proofs.Common.{suc, arith, add-one, drop-cons, inl, inr}
use Rattle.std.specs.Prelude.{◌&&◌, ◌||◌, not, nat_le, slice_range}
use Rattle.std.specs.List.{list_all, list_any}
use Rattle.std.proofs.lemmas.Bool.{and_parts, cases_Bool, eqb-true, eq-eqb, ne_eqb, not-true}
use Rattle.std.proofs.lemmas.Bool.{or_from, false≢true}
use Rattle.std.proofs.lemmas.List.{length-drop, get_or-drop}
use Rattle.csv.specs.Machine.{next_record}
use Rattle.csv.specs.Reading.{default_config, strip_bom}
use Rattle.csv.specs.declared.parser.State.TheVariants as state
use Rattle.gm_rows.specs.Printer.{is_marked, begins_with_mark, further, has_line_feed}
use Rattle.gm_rows.specs.Reader.{is_plain_byte, is_plain, cut_from, if_alone, record_of}
use Rattle.gm_rows.proofs.Printed.{short-strip, not-bom, record_plain, start_plain, end_field}
use Rattle.gm_rows.proofs.Printed.{end_row, nothing_more, no_field, plain_run}

further-none : further [] ≡ []
unfolding further
further-none = refl

-- what a plain byte is not
record IsNone (b : ℕ) : Type 0 where
  pub quote : (b == 34) ≡ false
  pub return : (b == 13) ≡ false
  pub feed : (b == 10) ≡ false

none_of : (b : ℕ) → is_plain_byte b ≡ true → IsNone b
none_of b h =
    let parts = and_parts (not (b == 34)) (not (b == 13) && not (b == 10)) h in
    let two = and_parts (not (b == 13)) (not (b == 10)) parts.1 in
    record {
      quote = not-true (b == 34) parts.0;
      return = not-true (b == 13) two.0;
      feed = not-true (b == 10) two.1;
    }

-- a field's start is as its middle
start_same : (fields : List (List ℕ)) (bytes : List ℕ) → list_all is_plain_byte bytes ≡ true
    → next_record default_config state.StartField fields [] bytes
    ≡ next_record default_config state.InField fields [] bytes
start_same fields [] h =
    ap (λ (t : List ℕ). next_record default_config state.StartField fields [] t) (sym further-none)
    ∙ no_field fields []
    ∙ ap (λ (t : List ℕ). next_record default_config state.InField fields [] t) further-none
start_same fields (b ∷ bytes) h =
    start_plain fields b bytes
    (none_of b (and_parts (is_plain_byte b) (list_all is_plain_byte bytes) h).0).quote

cut-comma : (fields : List (List ℕ)) (field : List ℕ) (b : ℕ) (bytes : List ℕ) → (b == 44) ≡ true
    → cut_from fields field (b ∷ bytes) ≡ cut_from (fields ++ field ∷ []) [] bytes
unfolding cut_from
cut-comma fields field b bytes e = rw e refl

cut-other : (fields : List (List ℕ)) (field : List ℕ) (b : ℕ) (bytes : List ℕ) → (b == 44) ≡ false
    → cut_from fields field (b ∷ bytes) ≡ cut_from fields (field ++ b ∷ []) bytes
unfolding cut_from
cut-other fields field b bytes e = rw e refl

cut-end : (fields : List (List ℕ)) (field : List ℕ)
    → cut_from fields field [] ≡ fields ++ field ∷ []
unfolding cut_from
cut-end fields field = refl

marked_none : (b : ℕ) → (b == 44) ≡ false → IsNone b → list_any is_marked (b ∷ []) ≡ false
marked_none b comma n =
    or_from ((b == 44) || (b == 34) || (b == 13)) false
    (or_from ((b == 44) || (b == 34)) (b == 13) (or_from (b == 44) (b == 34) comma n.quote)
    n.return) refl

feed_none : (b : ℕ) → IsNone b → has_line_feed (b ∷ []) ≡ false
feed_none b n = or_from (b == 10) false n.feed refl

plain_fields : (fields : List (List ℕ)) (field bytes : List ℕ) → list_all is_plain_byte bytes ≡ true
    → next_record default_config state.InField fields field bytes
    ≡ Some (cut_from fields field bytes, state.StartRecord, [])
plain_fields fields field [] h =
    ap (λ (t : List ℕ). next_record default_config state.InField fields field t) (sym further-none)
    ∙ end_row fields field
    ∙ ap (λ (fs : List (List ℕ)). Some (fs, state.StartRecord, [])) (sym (cut-end fields field))
plain_fields fields field (b ∷ bytes) h =
    let parts = and_parts (is_plain_byte b) (list_all is_plain_byte bytes) h in
    elim (cases_Bool (b == 44)) [
      | inl comma ↦
          subst (λ (c : ℕ). next_record default_config state.InField fields field (c ∷ bytes)
          ≡ Some (cut_from fields field (c ∷ bytes), state.StartRecord, []))
          (sym (eqb-true b 44 comma))
          (end_field fields field bytes ∙ start_same (fields ++ field ∷ []) bytes parts.1
          ∙ plain_fields (fields ++ field ∷ []) [] bytes parts.1
          ∙ ap (λ (fs : List (List ℕ)). Some (fs, state.StartRecord, []))
          (sym (cut-comma fields field 44 bytes refl)))
      | inr other ↦
          plain_run fields field (b ∷ []) bytes (marked_none b other (none_of b parts.0))
          (feed_none b (none_of b parts.0))
          ∙ plain_fields fields (field ++ b ∷ []) bytes parts.1
          ∙ ap (λ (fs : List (List ℕ)). Some (fs, state.StartRecord, []))
          (sym (cut-other fields field b bytes other))
    ]

strip_none : (row : List ℕ) → nat_le 1 (length row) ≡ true → begins_with_mark row ≡ false
    → strip_bom row ≡ row
strip_none [] some h = absurd (false≢true some)
strip_none (a ∷ []) some h = (short-strip a a).0
strip_none (a ∷ b ∷ []) some h = (short-strip a b).1
strip_none (a ∷ b ∷ c ∷ rest) some h = not-bom a b c rest h

start_row : (row : List ℕ) → nat_le 1 (length row) ≡ true → list_all is_plain_byte row ≡ true
    → next_record default_config state.StartRecord [] [] row
    ≡ next_record default_config state.StartField [] [] row
start_row [] some h = absurd (false≢true some)
start_row (b ∷ row) some h =
    let n = none_of b (and_parts (is_plain_byte b) (list_all is_plain_byte row) h).0 in
    record_plain b row n.return n.feed

pub plain_record : (row : List ℕ) → is_plain row ≡ true → record_of row ≡ Some (cut_from [] [] row)
plain_record row h =
    let parts = and_parts (nat_le 1 (length row))
    (not (begins_with_mark row) && list_all is_plain_byte row) h in
    let two = and_parts (not (begins_with_mark row)) (list_all is_plain_byte row) parts.1 in
    ap (λ (t : List ℕ). if_alone (next_record default_config state.StartRecord [] [] t))
    (strip_none row parts.0 (not-true (begins_with_mark row) two.0))
    ∙ ap if_alone (start_row row parts.0 two.1 ∙ start_same [] row two.1
    ∙ plain_fields [] [] row two.1)
    ∙ alone (cut_from [] [] row)
  where
    alone : (fields : List (List ℕ)) → if_alone (Some (fields, state.StartRecord, [])) ≡ Some fields
    alone fields = rw nothing_more refl

-- the loop that cuts: what it has, and what is left
pub at_comma : (row field : List ℕ) (fields : List (List ℕ)) (start place : ℕ) → place < length row
    → get_or row place 0 ≡ 44
    → field ≡ slice_range row start place
    → cut_from fields (slice_range row start place) (drop place row)
    ≡ cut_from (fields ++ field ∷ []) (slice_range row (place + 1) (place + 1))
    (drop (place + 1) row)
at_comma row field fields start place h e is =
    ap (cut_from fields (slice_range row start place)) (drop-cons row place 0 h)
    ∙ cut-comma fields (slice_range row start place) (get_or row place 0) (drop (suc place) row)
    (eq-eqb (get_or row place 0) 44 e)
    ∙ ap (λ (f : List ℕ). cut_from (fields ++ f ∷ []) [] (drop (suc place) row)) (sym is)
    ∙ ap (λ n. cut_from (fields ++ field ∷ []) [] (drop n row)) (sym (add-one place))
    ∙ ap (λ (f : List ℕ). cut_from (fields ++ field ∷ []) f (drop (place + 1) row))
    (sym (nothing row (place + 1)))
  where
    nothing : (r : List ℕ) (n : ℕ) → slice_range r n n ≡ []
    nothing r n = ap (λ m. take m (drop n r)) (let z : n - n ≡ 0 = omega arith in z)

one_longer : (bytes : List ℕ) (n : ℕ) → n < length bytes
    → take (suc n) bytes ≡ take n bytes ++ get_or bytes n 0 ∷ []
one_longer [] n h = absurd (omega arith)
one_longer (b ∷ bytes) zero h = refl
one_longer (b ∷ bytes) (suc n) h = ap (λ t. b ∷ t) (one_longer bytes n (omega arith))

range_more : (row : List ℕ) (start place : ℕ) → start ≤ place → place < length row
    → slice_range row start (place + 1) ≡ slice_range row start place ++ get_or row place 0 ∷ []
range_more row start place low h =
    ap (λ n. take n (drop start row))
    (let z : place + 1 - start ≡ suc (place - start) = omega arith in z)
    ∙ one_longer (drop start row) (place - start)
    (let l = length-drop start row in omega (arith, l))
    ∙ ap (λ b. take (place - start) (drop start row) ++ b ∷ [])
    (get_or-drop start row (place - start) 0
    ∙ ap (λ n. get_or row n 0) (let z : start + (place - start) ≡ place = omega arith in z))

pub at_other : (row : List ℕ) (fields : List (List ℕ)) (start place : ℕ) → start ≤ place
    → place < length row → (get_or row place 0 ≡ 44 → ⊥)
    → cut_from fields (slice_range row start place) (drop place row)
    ≡ cut_from fields (slice_range row start (place + 1)) (drop (place + 1) row)
at_other row fields start place low h other =
    ap (cut_from fields (slice_range row start place)) (drop-cons row place 0 h)
    ∙ cut-other fields (slice_range row start place) (get_or row place 0) (drop (suc place) row)
    (ne_eqb (get_or row place 0) 44 other)
    ∙ ap (λ (f : List ℕ). cut_from fields f (drop (suc place) row))
    (sym (range_more row start place low h))
    ∙ ap (λ n. cut_from fields (slice_range row start (place + 1)) (drop n row))
    (sym (add-one place))
