-- The keys of values that are in ranges are read, and the ranges are few.
use Rattle.std.proofs.Common.{◌≡◌, ℕ, suc, ◌+◌, ◌≤◌, Bool, true, false, ◌||◌, List, [], ◌∷◌}
use Rattle.std.proofs.Common.{◌++◌, length, map, refl, sym, ap, ◌∙◌, true≢false, ◌⊎◌, inl, inr}
use Rattle.std.proofs.Common.{Option, Some, None, arith, subst, cond, append_assoc}
use Rattle.std.proofs.lemmas.Bool.{and_parts, or_left, or_right, or_cases}
use Rattle.std.specs.Prelude.{fold, option_map}
use Rattle.std.specs.List.{list_any}
use Rattle.std.specs.Ordering.{nat_cmp, is_le}
use Rattle.std.specs.Cmp.Lexicographic.{slice_cmp}
use Rattle.gm_lexi.specs.Ends.{after_of, is_from_to}
use Rattle.gm_table.specs.Sorted.{is_within}
use Rattle.gm_types.specs.declared.index.IndexKind.{IndexKind}
use Rattle.gm_types.specs.declared.index.IndexKind.TheVariants.{Attr}
use Rattle.gm_types.specs.Index.{has_index}
use Rattle.gm_types.specs.Specification.{Specification}
use Rattle.gm_feature.specs.declared.feature.Feature.{Feature}
use Rattle.gm_feature.specs.declared.value.Value.{Value}
use Rattle.gm_feature.specs.declared.value.Value.TheVariants as value
use Rattle.gm_feature.specs.Feature.{value_at}
use Rattle.gm_filter.specs.Tree.{Tree}
use Rattle.gm_keys.specs.Key as keys
use Rattle.gm_keys.specs.Key.{prefix_of, key_of, front_of}
use Rattle.gm_bounds.specs.declared.bound.Bound.{Bound}
use Rattle.gm_bounds.specs.declared.bound.Bound.TheVariants.{World, Listed}
use Rattle.gm_bounds.specs.declared.byte_range.ByteRange.{ByteRange}
use Rattle.gm_bounds.specs.Applicability.{does_apply, is_listed}
use Rattle.gm_bounds.specs.ByteRange.{joined, is_form_in}
use Rattle.gm_bounds.specs.Values as bounds
use Rattle.gm_bounds.specs.Values.{byte_ranges_of}
use Rattle.gm_bounds.specs.Found.{IsFound}
use Rattle.gm_plan.specs.Inside.{is_inside, IsRead}
use Rattle.gm_plan.specs.KeyRanges.{list_of, value_range, value_ranges}
use Rattle.gm_plan.specs.Merging.{stands_before, merged_in, merged}
use Rattle.gm_plan.specs.Spans.{spans_in, value_end}
use Rattle.gm_plan.proofs.FewWindows.{mapped}
use Rattle.gm_plan.proofs.Found.{found_in_list, never_any}
use Rattle.gm_plan.proofs.Within.{any_range, prefix_end_alone, within_is}

-- what is said of values between two ends, and of ranges
pub record ValueLaws : Type 0 where
  pub both : (prefix low high rest : List ℕ)
      → is_from_to (prefix ++ low) (Some (prefix ++ high)) (prefix ++ rest)
      ≡ is_from_to low (Some high) rest
  pub to_the_end : (t : Specification) (kind : IndexKind) (low rest : List ℕ)
      → is_from_to (prefix_of t kind ++ low) (after_of (prefix_of t kind))
      (prefix_of t kind ++ rest) ≡ is_le (slice_cmp nat_cmp low rest)
  pub first : (o : Option (List ℕ)) (r s : ByteRange) → is_form_in o r ≡ true
      → is_form_in o (joined r s) ≡ true
  pub second : (o : Option (List ℕ)) (r s : ByteRange) → is_form_in o s ≡ true
      → is_form_in o (joined r s) ≡ true

-- ---- merged ranges lose nothing

module _ (laws : ValueLaws) (o : Option (List ℕ)) where
  abbrev has : List ByteRange → Bool
  has ranges = list_any (is_form_in o) ranges

  abbrev in_all : ByteRange → List ByteRange → Bool
  in_all r ranges = is_form_in o r || has ranges

  among : (r s : ByteRange) (ranges rest : List ByteRange)
      → (in_all r ranges ≡ true → has rest ≡ true) → in_all r (s ∷ ranges) ≡ true
      → has (s ∷ rest) ≡ true
  among r s ranges rest rec h = elim (or_cases (is_form_in o r) (has (s ∷ ranges)) h) [
    | inl here ↦ or_right (is_form_in o s) (has rest)
        (rec (or_left (is_form_in o r) (has ranges) here))
    | inr there ↦ behind (or_cases (is_form_in o s) (has ranges) there)
  ]
    where
      behind : (is_form_in o s ≡ true) ⊎ (has ranges ≡ true) → has (s ∷ rest) ≡ true
      behind (inl here) = or_left (is_form_in o s) (has rest) here
      behind (inr there) =
          or_right (is_form_in o s) (has rest) (rec (or_right (is_form_in o r) (has ranges) there))

  as_one : (r s : ByteRange) (ranges : List ByteRange) → in_all r (s ∷ ranges) ≡ true
      → in_all (joined r s) ranges ≡ true
  as_one r s ranges h = elim (or_cases (is_form_in o r) (has (s ∷ ranges)) h) [
    | inl here ↦ or_left (is_form_in o (joined r s)) (has ranges) (laws.first o r s here)
    | inr there ↦ behind (or_cases (is_form_in o s) (has ranges) there)
  ]
    where
      behind : (is_form_in o s ≡ true) ⊎ (has ranges ≡ true) → in_all (joined r s) ranges ≡ true
      behind (inl here) = or_left (is_form_in o (joined r s)) (has ranges) (laws.second o r s here)
      behind (inr there) = or_right (is_form_in o (joined r s)) (has ranges) there

  has_where : (b c : Bool) (xs ys zs : List ByteRange) → has xs ≡ true → has ys ≡ true
      → has zs ≡ true → has (cond b xs (cond c ys zs)) ≡ true
  has_where true c xs ys zs h g k = h
  has_where false true xs ys zs h g k = g
  has_where false false xs ys zs h g k = k

  put_in : (r : ByteRange) (ranges : List ByteRange) → in_all r ranges ≡ true
      → has (merged_in r ranges) ≡ true
  put_in r [] h = h
  put_in r (s ∷ ranges) h =
      has_where (stands_before r s) (stands_before s r) (r ∷ s ∷ ranges) (s ∷ merged_in r ranges)
      (merged_in (joined r s) ranges)
      h (among r s ranges (merged_in r ranges) (put_in r ranges) h)
      (put_in (joined r s) ranges (as_one r s ranges h))

  all_put : (ranges held : List ByteRange) → has held ≡ true ⊎ (has ranges ≡ true)
      → has (fold (λ held r. merged_in r held) held ranges) ≡ true
  all_put [] held (inl h) = h
  all_put [] held (inr h) = absurd (true≢false (sym h))
  all_put (r ∷ ranges) held (inl h) =
      all_put ranges (merged_in r held)
      (inl (put_in r held (or_right (is_form_in o r) (has held) h)))
  all_put (r ∷ ranges) held (inr h) = elim (or_cases (is_form_in o r) (has ranges) h) [
    | inl here ↦ all_put ranges (merged_in r held)
        (inl (put_in r held (or_left (is_form_in o r) (has held) here)))
    | inr there ↦ all_put ranges (merged_in r held) (inr there)
  ]

  merged_has : (ranges : List ByteRange) → has ranges ≡ true → has (merged ranges) ≡ true
  merged_has ranges h = all_put ranges [] (inr h)

-- ---- spans of ranges

module _ (laws : ValueLaws) (s : Specification) (number : ℕ) (form : List ℕ) where
  abbrev prefix : List ℕ
  prefix = prefix_of s (Attr number)

  in_span : (low : List ℕ) (high : Option (List ℕ)) → is_from_to low high form ≡ true
      → is_within (prefix ++ low) (value_end prefix high) (prefix ++ form) ≡ true
  in_span low None h =
      within_is (prefix ++ low) prefix (prefix ++ form) (prefix_end_alone s (Attr number))
      ∙ laws.to_the_end s (Attr number) low form
      ∙ (and_parts (is_le (slice_cmp nat_cmp low form)) true h).0
  in_span low (Some high) h = laws.both prefix low high form ∙ h

  in_spans : (ranges : List ByteRange) → list_any (is_form_in (Some form)) ranges ≡ true
      → is_inside (prefix ++ form) (spans_in prefix (map value_range ranges) 0) ≡ true
  in_spans [] h = absurd (true≢false (sym h))
  in_spans (r ∷ ranges) h =
      by (or_cases (is_form_in (Some form) r) (list_any (is_form_in (Some form)) ranges) h)
      (in_spans ranges)
    where
      by : (is_form_in (Some form) r ≡ true) ⊎ (list_any (is_form_in (Some form)) ranges ≡ true)
          → (list_any (is_form_in (Some form)) ranges ≡ true
          → is_inside (prefix ++ form) (spans_in prefix (map value_range ranges) 0) ≡ true)
          → is_inside (prefix ++ form) (spans_in prefix (map value_range (r ∷ ranges)) 0) ≡ true
      by (inl here) rec =
          or_left (is_within (prefix ++ r.low) (value_end prefix r.high) (prefix ++ form)) _
          (in_span r.low r.high here)
      by (inr there) rec =
          or_right (is_within (prefix ++ r.low) (value_end prefix r.high) (prefix ++ form))
          _ (rec there)

-- ---- the key

same_form : (v : Value) → keys.form_of v ≡ bounds.form_of v
same_form value.Null = refl
same_form (value.Text text) = refl
same_form (value.Integer n) = refl
same_form (value.Long n) = refl
same_form (value.Boolean truth) = refl
same_form (value.Date at) = refl
same_form (value.Geo geometry) = refl

has_key : (s : Specification) (number : ℕ) (f : Feature) (form : List ℕ)
    → keys.form_of (value_at f number) ≡ Some form
    → key_of s (Attr number) f ≡ Some ((prefix_of s (Attr number) ++ form) ++ f.id)
unfolding front_of
has_key s number f form is =
    ap (λ o. option_map (λ front. front ++ f.id)
    (option_map (λ x. prefix_of s (Attr number) ++ x) o)) is

module _ (laws : ValueLaws) (s : Specification) (t : Tree) (target number : ℕ) (f : Feature) where
  abbrev ranges : List ByteRange
  ranges = list_of (byte_ranges_of s number t)

  read_by : (o : Option (List ℕ)) → keys.form_of (value_at f number) ≡ o
      → list_any (is_form_in (option_map (λ form. form ++ f.id) o)) ranges ≡ true
      → IsRead s (Attr number) t target f
  read_by None is h = absurd (never_any (is_form_in None) ranges (λ r. refl) h)
  read_by (Some form) is h =
      let inside = in_spans laws s number (form ++ f.id) (merged ranges)
      (merged_has laws (Some (form ++ f.id)) ranges h) in
      let same = sym (append_assoc (prefix_of s (Attr number)) form f.id) in
      record {
        key = (prefix_of s (Attr number) ++ form) ++ f.id;
        has = has_key s number f form is;
        inside = any_range _ (spans_in (prefix_of s (Attr number)) (value_ranges ranges)) 0 1 0
            (omega arith)
            (subst (λ key. is_inside key
            (spans_in (prefix_of s (Attr number)) (value_ranges ranges) 0) ≡ true) same inside);
      }

  pub value_read : does_apply s (Attr number) t ≡ true
      → IsFound (is_form_in
      (option_map (λ form. form ++ f.id) (bounds.form_of (value_at f number))))
      (byte_ranges_of s number t) → IsRead s (Attr number) t target f
  value_read applies found =
      let listed = (and_parts (has_index s (Attr number)) (is_listed (byte_ranges_of s number t))
      applies).1 in
      let here = found_in_list _ (byte_ranges_of s number t) listed found in
      read_by (keys.form_of (value_at f number)) refl
      (subst (λ o. list_any (is_form_in (option_map (λ form. form ++ f.id) o)) ranges ≡ true)
      (sym (same_form (value_at f number))) here)

-- ---- how many there are

most_where : (b c : Bool) (xs ys zs : List ByteRange) (n : ℕ) → length xs ≤ n → length ys ≤ n
    → length zs ≤ n → length (cond b xs (cond c ys zs)) ≤ n
most_where true c xs ys zs n h g k = h
most_where false true xs ys zs n h g k = g
most_where false false xs ys zs n h g k = k

one_more : (r : ByteRange) (ranges : List ByteRange)
    → length (merged_in r ranges) ≤ suc (length ranges)
one_more r [] = omega arith
one_more r (s ∷ ranges) =
    let one = one_more r ranges in
    let other = one_more (joined r s) ranges in
    most_where (stands_before r s) (stands_before s r) (r ∷ s ∷ ranges) (s ∷ merged_in r ranges)
    (merged_in (joined r s) ranges) (suc (suc (length ranges)))
    (omega arith) (omega (arith, one)) (omega (arith, other))

no_more : (ranges held : List ByteRange)
    → length (fold (λ held r. merged_in r held) held ranges) ≤ length ranges + length held
no_more [] held = omega arith
no_more (r ∷ ranges) held =
    let one = one_more r held in
    let rest = no_more ranges (merged_in r held) in
    omega (arith, one, rest)

pub few_values : (b : Bound ByteRange)
    → ((ranges : List ByteRange) → b ≡ Listed ranges → length ranges ≤ 8)
    → length (value_ranges (list_of b)) ≤ 8
few_values World few = omega arith
few_values (Listed ranges) few =
    let e = mapped value_range (merged ranges) in
    let less = no_more ranges [] in
    let most = few ranges refl in
    omega (arith, e, less, most)
