-- A feature of which a filter is true has the form of its value in one of the ranges of the
-- attribute, whatever follows the form.
use Rattle.std.proofs.Common.{◌≡◌, ℕ, Bool, true, false, ◌&&◌, ◌||◌, List, [], ◌∷◌, ◌++◌, length}
use Rattle.std.proofs.Common.{refl, sym, ap, ◌∙◌, true≢false, inl, inr, Option, Some, None, cond}
use Rattle.std.proofs.Common.{arith, subst, append_assoc, append-nil}
use Rattle.std.proofs.lemmas.Bool.{and_parts, or_cases, or_left, or_right}
use Rattle.std.proofs.lemmas.Int.{ints}
use Rattle.std.proofs.lemmas.List.Elements.{All-append}
use Rattle.std.proofs.lemmas.List.Folds.{list_any-append}
use Rattle.std.proofs.lemmas.Str.{IsUtf8-from_is_utf8}
use Rattle.std.specs.Prelude.{ℤ, pos, ◌+ℤ◌, ◌<ℤ◌, ◌≤ℤ◌, ◌<◌, IsUtf8, nat_le, option_map}
use Rattle.std.specs.List.{list_any, list_all}
use Rattle.std.specs.Str.{is_utf8}
use Rattle.std.proofs.lemmas.Cmp.{int_ranked}
use Rattle.std.specs.Ordering.{int_cmp, is_le, is_lt, is_ge, MatchOrdering}
use Rattle.std.specs.declared.cmp.Ordering.{Ordering}
use Rattle.std.specs.declared.cmp.Ordering.TheVariants.{Less, Equal, Greater}
use Rattle.gm_calendar.specs.Instant.{is_instant}
use Rattle.gm_lexi.specs.Ends.{after_of}
use Rattle.gm_lexi.specs.Lexicode.{date_bytes, text_bytes}
use Rattle.gm_types.specs.declared.kind.Kind.{Kind}
use Rattle.gm_types.specs.declared.kind.Kind.TheVariants as kind
use Rattle.gm_types.specs.Kind.{is_date}
use Rattle.gm_types.specs.Specification.{Specification, kind_at}
use Rattle.gm_feature.specs.declared.feature.Feature.{Feature}
use Rattle.gm_feature.specs.declared.value.Value.{Value}
use Rattle.gm_feature.specs.declared.value.Value.TheVariants as value
use Rattle.gm_feature.specs.Feature.{value_at}
use Rattle.gm_feature.specs.Value.{value_fits, has_text_form, is_no_zero}
use Rattle.gm_filter.specs.declared.filter.Op.{Op}
use Rattle.gm_filter.specs.declared.filter.Op.TheVariants.{Eq, Ne, Lt, Le, Gt, Ge}
use Rattle.gm_filter.specs.declared.filter.Literal.{Literal}
use Rattle.gm_filter.specs.declared.filter.Literal.TheVariants as literal
use Rattle.gm_filter.specs.Comparison.{compares}
use Rattle.gm_filter.specs.Like.{is_like, has_wildcard, plain_front}
use Rattle.gm_filter.specs.Suitability.{Suits, passes_kind, may_compare, may_lie_between}
use Rattle.gm_filter.specs.Suitability.{may_be_one_of, is_literal_of, is_op_of, is_ordered, is_text}
use Rattle.gm_filter.specs.Tree.{Tree, compare, between, like, one_of, during, before, after}
use Rattle.gm_filter.specs.Tree.{tequals}
use Rattle.gm_filter.specs.Truth.{is_true, lies_between, lies_during, is_one_of, is_text_like}
use Rattle.gm_bounds.specs.declared.bound.Bound.{Bound}
use Rattle.gm_bounds.specs.declared.bound.Bound.TheVariants.{World}
use Rattle.gm_bounds.specs.declared.byte_range.ByteRange.{ByteRange}
use Rattle.gm_bounds.specs.ByteRange.{met, joined, is_void, is_form_in}
use Rattle.gm_bounds.specs.Values.{form_of, literal_form, text_form, has_zero, compared}
use Rattle.gm_bounds.specs.Values.{compared_form, compared_none, lying_between, range_of}
use Rattle.gm_bounds.specs.Values.{ranges_of, beginning, begun_by, patterned, is_blank, ranging}
use Rattle.gm_bounds.specs.Values.{range_test, range_rules, ranges_at, byte_ranges_of}
use Rattle.gm_bounds.specs.Found.{IsFound}
use Rattle.gm_bounds.specs.Lists.{single}
use Rattle.gm_bounds.proofs.InForms.{FormLaws, Formed, Compared, compare_forms, date_formed}
use Rattle.gm_bounds.proofs.InForms.{instant_parts, instant_fits64, ms_fits64, no_zero_in}
use Rattle.gm_bounds.proofs.InForms.{text_bytes_small}
use Rattle.gm_bounds.proofs.InOrder.{Bytes, C, widens, narrows, full}
use Rattle.gm_bounds.proofs.InTime.{passed}
use Rattle.gm_bounds.proofs.InValues.{AreBytes, EndLaws, IsOrdered, form_found, between_found}
use Rattle.gm_bounds.proofs.InValues.{from_to_found, beginning_finds, beginning_holds, same_bytes}
use Rattle.gm_bounds.proofs.Sound.{IsSoundFor, meeting_finds, capped_finds, listed_finds, on_finds}
use Rattle.gm_bounds.proofs.Sound.{found}

pub record RangeLaws : Type 0 where
  pub ends : EndLaws
  pub forms : FormLaws
  pub front : (pattern text : Bytes) → IsUtf8 pattern → IsUtf8 text → is_like pattern text ≡ true
      → (rest : Bytes) × (text ≡ plain_front pattern ++ rest)
  pub whole : (pattern text : Bytes) → IsUtf8 pattern → IsUtf8 text → is_like pattern text ≡ true
      → has_wildcard pattern ≡ false → text ≡ pattern

ge_by : (m n : ℤ) (o : Ordering) → MatchOrdering o (m <ℤ n) (m ≡ n) (n <ℤ m) → n ≤ℤ m
    → is_ge o ≡ true
ge_by m n Less r h = absurd (omega (arith, ints, r, h))
ge_by m n Equal r h = refl
ge_by m n Greater r h = refl

ge_passes : (m n : ℤ) → n ≤ℤ m → is_ge (int_cmp m n) ≡ true
ge_passes m n h = ge_by m n (int_cmp m n) (int_ranked m n (int_cmp m n) refl) h

is_date_kind : (k : Kind) → is_date k ≡ true → k ≡ kind.Date
is_date_kind kind.Date h = refl
is_date_kind kind.Text h = absurd (true≢false (sym h))
is_date_kind kind.Integer h = absurd (true≢false (sym h))
is_date_kind kind.Long h = absurd (true≢false (sym h))
is_date_kind kind.Boolean h = absurd (true≢false (sym h))
is_date_kind (kind.Geo g) h = absurd (true≢false (sym h))

is_text_kind : (k : Kind) → is_text k ≡ true → k ≡ kind.Text
is_text_kind kind.Text h = refl
is_text_kind kind.Date h = absurd (true≢false (sym h))
is_text_kind kind.Integer h = absurd (true≢false (sym h))
is_text_kind kind.Long h = absurd (true≢false (sym h))
is_text_kind kind.Boolean h = absurd (true≢false (sym h))
is_text_kind (kind.Geo g) h = absurd (true≢false (sym h))

module _ (laws : RangeLaws) (more : Bytes) (small : AreBytes more) where
  -- the form with what follows it
  abbrev whole : Option Bytes → Option Bytes
  whole o = option_map (λ form. form ++ more) o

  whole_bytes : (z : Bytes) → AreBytes z → AreBytes (z ++ more)
  whole_bytes z h = All-append (λ byte. byte < 256) z more h small

  -- found for the form of a value, where it is known
  moved : (o : Option Bytes) (z : Bytes) (b : Bound ByteRange) → o ≡ Some z
      → IsFound (is_form_in (Some (z ++ more))) b → IsFound (is_form_in (whole o)) b
  moved o z b is h = subst (λ p. IsFound (is_form_in (whole p)) b) (sym is) h

  formed_found : (op : Op) (v : Value) (form : Bytes) → Formed op v form
      → IsFound (is_form_in (whole (form_of v))) (compared_form op form)
  formed_found op v form h =
      moved (form_of v) h.z (compared_form op form) h.is
      (form_found laws.ends h.z more (whole_bytes h.z h.bytes) op form h.apart h.order h.passed)

  none_found : (op : Op) (v : Value) → (op ≡ Eq → ⊥)
      → IsFound (is_form_in (whole (form_of v))) (compared_none op)
  none_found Eq v h = absurd (h refl)
  none_found Ne v h = tt
  none_found Lt v h = tt
  none_found Le v h = tt
  none_found Gt v h = tt
  none_found Ge v h = tt

  compared_found : (op : Op) (v : Value) (o : Option Bytes) → Compared op v o
      → IsFound (is_form_in (whole (form_of v))) (compared op o)
  compared_found op v None h = none_found op v h
  compared_found op v (Some form) h = formed_found op v form h

  lying_found : (v : Value) (o p : Option Bytes) → Compared Ge v o → Compared Le v p
      → IsFound (is_form_in (whole (form_of v))) (lying_between o p)
  lying_found v None p h g = tt
  lying_found v (Some low) None h g = tt
  lying_found v (Some low) (Some high) h g =
      let one : Some h.z ≡ Some g.z = sym h.is ∙ g.is in
      let same : h.z ≡ g.z = cc in
      let below : is_le (C h.z high) ≡ true = ap (λ z. is_le (C z high)) same ∙ g.passed in
      let order : IsOrdered h.z high = subst (λ z. IsOrdered z high) (sym same) g.order in
      moved (form_of v) h.z (ranging low (after_of high)) h.is
      (between_found laws.ends h.z more (whole_bytes h.z h.bytes) low high h.order order
      h.passed below)

  equal_range : (v : Value) (o : Option Bytes) → Compared Eq v o
      → list_any (is_form_in (whole (form_of v))) (range_of o) ≡ true
  equal_range v None h = absurd (h refl)
  equal_range v (Some form) h =
      let same = same_bytes h.z form h.passed in
      let inside = beginning_holds laws.ends form (h.z ++ more) (whole_bytes h.z h.bytes) more
      (ap (λ z. z ++ more) same) in
      or_left _ _ (subst (λ p. is_form_in (whole p) (beginning form) ≡ true) (sym h.is) inside)

  one_of_ranges : (k : Kind) (v : Value) (literals : List Literal) → value_fits k v ≡ true
      → list_all (is_literal_of k) literals ≡ true → is_one_of v literals ≡ true
      → list_any (is_form_in (whole (form_of v))) (ranges_of k literals) ≡ true
  one_of_ranges k v [] f g h = absurd (true≢false (sym h))
  one_of_ranges k v (l ∷ literals) f g h =
      let suit = and_parts (is_literal_of k l) (list_all (is_literal_of k) literals) g in
      rw list_any-append
      (elim (or_cases (compares Eq v l) (is_one_of v literals) h) [
        | inl here ↦ or_left _ _
            (equal_range v (literal_form k l) (compare_forms laws.forms k v Eq l f suit.0 here))
        | inr there ↦ or_right
            (list_any (is_form_in (whole (form_of v))) (range_of (literal_form k l))) _
            (one_of_ranges k v literals f suit.1 there)
      ])

  -- ---- instants

  dated_found : (v : Value) (op : Op) (to : ℤ) → value_fits kind.Date v ≡ true
      → is_instant to ≡ true → compares op v (literal.Date to) ≡ true
      → IsFound (is_form_in (whole (form_of v))) (compared_form op (date_bytes to))
  dated_found v op to f g h =
      formed_found op v (date_bytes to)
      (compare_forms laws.forms kind.Date v op (literal.Date to) f g h)

  during_found : (v : Value) (low high : ℤ) → value_fits kind.Date v ≡ true → is_instant low ≡ true
      → is_instant high ≡ true → lies_during v (literal.Date low) (literal.Date high) ≡ true
      → IsFound (is_form_in (whole (form_of v)))
      (ranging (date_bytes (low +ℤ pos 1)) (Some (date_bytes high)))
  during_found (value.Date at) low high f g h e =
      let parts = and_parts (compares Gt (value.Date at) (literal.Date low))
      (compares Lt (value.Date at) (literal.Date high)) e in
      let past = passed Gt at low parts.0 in
      let first = instant_parts low g in
      let next_fits =
      ms_fits64 (low +ℤ pos 1) (omega (arith, ints, first.0)) (omega (arith, ints, first.1)) in
      let one = date_formed laws.forms Ge at (low +ℤ pos 1) f next_fits
      (ge_passes at (low +ℤ pos 1) (omega (arith, ints, past))) in
      let two = date_formed laws.forms Lt at high f (instant_fits64 high h) parts.1 in
      let both : Some one.z ≡ Some two.z = sym one.is ∙ two.is in
      let same : one.z ≡ two.z = cc in
      let below : is_lt (C one.z (date_bytes high)) ≡ true =
      ap (λ z. is_lt (C z (date_bytes high))) same ∙ two.passed in
      let order : IsOrdered one.z (date_bytes high) =
      subst (λ z. IsOrdered z (date_bytes high)) (sym same) two.order in
      moved (form_of (value.Date at)) one.z
      (ranging (date_bytes (low +ℤ pos 1)) (Some (date_bytes high))) one.is
      (from_to_found laws.ends one.z more (whole_bytes one.z one.bytes) (date_bytes (low +ℤ pos 1))
      (date_bytes high) one.order order one.passed below)
  during_found value.Null low high f g h e = absurd (true≢false (sym e))
  during_found (value.Text t) low high f g h e = absurd (true≢false (sym e))
  during_found (value.Integer n) low high f g h e = absurd (true≢false (sym e))
  during_found (value.Long n) low high f g h e = absurd (true≢false (sym e))
  during_found (value.Boolean b) low high f g h e = absurd (true≢false (sym e))
  during_found (value.Geo geometry) low high f g h e = absurd (true≢false (sym e))

  -- ---- LIKE

  begun_where : (b : Bool) (t pattern front : Bytes) → IsUtf8 t → (rest : Bytes) → t ≡ front ++ rest
      → IsFound (is_form_in (Some (text_bytes t ++ more)))
      (cond b World (single is_void (beginning front)))
  begun_where true t pattern front u rest e = tt
  begun_where false t pattern front u rest e =
      beginning_finds laws.ends front (text_bytes t ++ more)
      (whole_bytes (text_bytes t) (text_bytes_small t u)) ((rest ++ 0 ∷ []) ++ more)
      (ap (λ s. (s ++ 0 ∷ []) ++ more) e ∙ ap (λ s. s ++ more) (append_assoc front rest (0 ∷ []))
      ∙ append_assoc front (rest ++ 0 ∷ []) more)

  equal_text : (t : Bytes) → IsUtf8 t → (b : Bool) → has_zero t ≡ b → b ≡ false
      → IsFound (is_form_in (Some (text_bytes t ++ more)))
      (compared Eq (cond b None (Some (text_bytes t))))
  equal_text t u true z e = absurd (true≢false e)
  equal_text t u false z e =
      beginning_finds laws.ends (text_bytes t) (text_bytes t ++ more)
      (whole_bytes (text_bytes t) (text_bytes_small t u)) more refl

  patterned_where : (w : Bool) (t pattern : Bytes) → has_wildcard pattern ≡ w → IsUtf8 pattern
      → IsUtf8 t → list_all is_no_zero t ≡ true → is_like pattern t ≡ true
      → IsFound (is_form_in (Some (text_bytes t ++ more)))
      (cond w (begun_by pattern (plain_front pattern)) (compared Eq (text_form pattern)))
  patterned_where true t pattern is p u plain h =
      let begun = laws.front pattern t p u h in
      begun_where (is_blank (plain_front pattern) || has_zero pattern) t pattern
      (plain_front pattern) u begun.0 begun.1
  patterned_where false t pattern is p u plain h =
      let same : t ≡ pattern = laws.whole pattern t p u h is in
      let P : Bytes → Type 0 =
      λ q. IsFound (is_form_in (Some (text_bytes t ++ more))) (compared Eq (text_form q)) in
      subst P same (equal_text t u (has_zero t) refl (no_zero_in t plain))

  patterned_found : (v : Value) (pattern : Bytes) → value_fits kind.Text v ≡ true
      → is_utf8 pattern ≡ true → is_text_like pattern v ≡ true
      → IsFound (is_form_in (whole (form_of v))) (patterned pattern)
  patterned_found (value.Text t) pattern f p h =
      let sound = and_parts (is_utf8 t) (has_text_form t) f in
      let form = and_parts (nat_le 1 (length t) && nat_le (length t) 1048576)
      (list_all is_no_zero t) sound.1 in
      patterned_where (has_wildcard pattern) t pattern refl (IsUtf8-from_is_utf8 pattern p)
      (IsUtf8-from_is_utf8 t sound.0) form.1 h
  patterned_found value.Null pattern f p h = absurd (true≢false (sym h))
  patterned_found (value.Integer n) pattern f p h = absurd (true≢false (sym h))
  patterned_found (value.Long n) pattern f p h = absurd (true≢false (sym h))
  patterned_found (value.Boolean b) pattern f p h = absurd (true≢false (sym h))
  patterned_found (value.Date at) pattern f p h = absurd (true≢false (sym h))
  patterned_found (value.Geo g) pattern f p h = absurd (true≢false (sym h))

  -- ---- tests

  module _ (s : Specification) (f : Feature) (d : ℕ) (k : Kind) (at : kind_at s d ≡ Some k)
      (fits : value_fits k (value_at f d) ≡ true) where
    abbrev form : Option Bytes
    form = whole (form_of (value_at f d))

    -- what the kind of attribute a passes that of d passes, where these are one
    kind_passes : (a : ℕ) (test : Kind → Bool) → a ≡ d → passes_kind test (kind_at s a) ≡ true
        → test k ≡ true
    kind_passes a test same h =
        subst (λ o. passes_kind test o ≡ true) at
        (subst (λ n. passes_kind test (kind_at s n) ≡ true) same h)

    -- and the same of the value
    value_passes : (a : ℕ) (test : Value → Bool) → a ≡ d → test (value_at f a) ≡ true
        → test (value_at f d) ≡ true
    value_passes a test same h = subst (λ n. test (value_at f n) ≡ true) same h

    date_kind : (a : ℕ) → a ≡ d → passes_kind is_date (kind_at s a) ≡ true
        → value_fits kind.Date (value_at f d) ≡ true
    date_kind a same h =
        subst (λ q. value_fits q (value_at f d) ≡ true)
        (is_date_kind k (kind_passes a is_date same h)) fits

    text_kind : (a : ℕ) → a ≡ d → passes_kind is_text (kind_at s a) ≡ true
        → value_fits kind.Text (value_at f d) ≡ true
    text_kind a same h =
        subst (λ q. value_fits q (value_at f d) ≡ true)
        (is_text_kind k (kind_passes a is_text same h)) fits

    instant_test : (a : ℕ) (op : Op) (to : ℤ) → a ≡ d
        → (is_instant to && passes_kind is_date (kind_at s a)) ≡ true
        → compares op (value_at f a) (literal.Date to) ≡ true
        → IsFound (is_form_in form) (compared_form op (date_bytes to))
    instant_test a op to same h e =
        let suit = and_parts (is_instant to) (passes_kind is_date (kind_at s a)) h in
        dated_found (value_at f d) op to (date_kind a same suit.1) suit.0
        (value_passes a (λ v. compares op v (literal.Date to)) same e)

    tests_found : (t : Tree) → Suits s t → is_true f t ≡ true
        → IsFound (is_form_in form) (range_test d k t)
    tests_found (compare a op l) h e = on_finds (is_form_in form) a d _ (λ same.
        let suit = and_parts (is_op_of k op) (is_literal_of k l)
        (kind_passes a (may_compare op l) same h) in
        compared_found op (value_at f d) (literal_form k l)
        (compare_forms laws.forms k (value_at f d) op l fits suit.1
        (value_passes a (λ v. compares op v l) same e)))
    tests_found (between a low high) h e = on_finds (is_form_in form) a d _ (λ same.
        let suit = and_parts (is_ordered k) (is_literal_of k low && is_literal_of k high)
        (kind_passes a (may_lie_between low high) same h) in
        let literals = and_parts (is_literal_of k low) (is_literal_of k high) suit.1 in
        let parts = and_parts (compares Ge (value_at f d) low) (compares Le (value_at f d) high)
        (value_passes a (λ v. lies_between v low high) same e) in
        lying_found (value_at f d) (literal_form k low) (literal_form k high)
        (compare_forms laws.forms k (value_at f d) Ge low fits literals.0 parts.0)
        (compare_forms laws.forms k (value_at f d) Le high fits literals.1 parts.1))
    tests_found (like a pattern) h e = on_finds (is_form_in form) a d _ (λ same.
        let suit = and_parts (is_utf8 pattern) (passes_kind is_text (kind_at s a)) h in
        patterned_found (value_at f d) pattern (text_kind a same suit.1) suit.0
        (value_passes a (is_text_like pattern) same e))
    tests_found (one_of a literals) h e = on_finds (is_form_in form) a d _ (λ same.
        let suit = and_parts (nat_le 1 (length literals))
        (passes_kind (may_be_one_of literals) (kind_at s a)) h in
        listed_finds (is_form_in form) is_void joined (ranges_of k literals) (full form)
        (widens form)
        (one_of_ranges k (value_at f d) literals fits
        (kind_passes a (may_be_one_of literals) same suit.1)
        (value_passes a (λ v. is_one_of v literals) same e)))
    tests_found (during a low high) h e = on_finds (is_form_in form) a d _ (λ same.
        let suit = and_parts (is_instant low && is_instant high)
        (passes_kind is_date (kind_at s a)) h in
        let ends = and_parts (is_instant low) (is_instant high) suit.0 in
        during_found (value_at f d) low high (date_kind a same suit.1) ends.0 ends.1
        (value_passes a (λ v. lies_during v (literal.Date low) (literal.Date high)) same e))
    tests_found (before a to) h e =
        on_finds (is_form_in form) a d _ (λ same. instant_test a Lt to same h e)
    tests_found (after a to) h e =
        on_finds (is_form_in form) a d _ (λ same. instant_test a Gt to same h e)
    tests_found (tequals a to) h e =
        on_finds (is_form_in form) a d _ (λ same. instant_test a Eq to same h e)
    tests_found _ h e = tt

    rules_sound : IsSoundFor s f (is_form_in form) (range_rules d k)
    rules_sound = record {
      tests = tests_found;
      meets = meeting_finds (is_form_in form) is_void met joined (widens form) true (λ _. full form)
          (λ _. narrows form);
      counts = capped_finds (is_form_in form) joined (widens form);
    }

    pub found_at_kind : (t : Tree) → Suits s t → is_true f t ≡ true
        → IsFound (is_form_in form) (ranges_at d (Some k) t)
    found_at_kind t suit e = found s f (is_form_in form) (range_rules d k) rules_sound t suit e

  found_in_ranges_of : (s : Specification) (f : Feature) (d : ℕ) (o : Option Kind) → kind_at s d ≡ o
      → ((k : Kind) → kind_at s d ≡ Some k → value_fits k (value_at f d) ≡ true)
      → (t : Tree) → Suits s t → is_true f t ≡ true
      → IsFound (is_form_in (whole (form_of (value_at f d)))) (ranges_at d o t)
  found_in_ranges_of s f d None is fits t suit e = tt
  found_in_ranges_of s f d (Some k) is fits t suit e = found_at_kind s f d k is (fits k is) t suit e

  pub found_in_ranges : (s : Specification) (t : Tree) (f : Feature) (d : ℕ)
      → ((k : Kind) → kind_at s d ≡ Some k → value_fits k (value_at f d) ≡ true) → Suits s t
      → is_true f t ≡ true
      → IsFound (is_form_in (whole (form_of (value_at f d)))) (byte_ranges_of s d t)
  found_in_ranges s t f d fits suit e = found_in_ranges_of s f d (kind_at s d) refl fits t suit e

-- with nothing behind the form
pub found_alone : (o : Option Bytes) (b : Bound ByteRange)
    → IsFound (is_form_in (option_map (λ form. form ++ []) o)) b → IsFound (is_form_in o) b
found_alone None b h = h
found_alone (Some z) b h = subst (λ xs. IsFound (is_form_in (Some xs)) b) (append-nil z) h
