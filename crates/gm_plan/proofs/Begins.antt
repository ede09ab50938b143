-- What is inside the spans of an index begins with the prefix of the index.
use Rattle.std.proofs.Common.{◌≡◌, ℕ, zero, suc, ◌+◌, ◌<◌, ◌≤◌, true, List, [], ◌∷◌, ◌++◌, sym, ◌∙◌}
use Rattle.std.proofs.Common.{true≢false, ◌⊎◌, inl, inr, Option, Some, None, arith, subst}
use Rattle.std.proofs.Common.{append_assoc, append-nil}
use Rattle.std.proofs.lemmas.Bool.{or_cases}
use Rattle.std.proofs.lemmas.List.Folds.{list_any-append}
use Rattle.std.specs.List.{flat_map, range_with_len}
use Rattle.gm_lexi.specs.Ends.{after_of, is_from_to}
use Rattle.gm_table.specs.Sorted.{is_within}
use Rattle.gm_types.specs.declared.index.IndexKind.{IndexKind}
use Rattle.gm_types.specs.FeatureType.{IsType}
use Rattle.gm_types.specs.Index.{has_index}
use Rattle.gm_types.specs.Specification.{Specification}
use Rattle.gm_feature.specs.declared.feature.Feature.{Feature}
use Rattle.gm_feature.specs.Feature.{Fits}
use Rattle.gm_keys.specs.Key.{prefix_of, code_front, bin_front, bin_code_front, key_of}
use Rattle.gm_keys.specs.Layout.{IsLaidOut}
use Rattle.gm_bounds.specs.declared.ranges.KeyRanges.{KeyRanges}
use Rattle.gm_bounds.specs.declared.ranges.Range.{Range}
use Rattle.gm_bounds.specs.declared.ranges.Range.TheVariants.{Codes, InBin, Span, Values, OneId}
use Rattle.gm_bounds.specs.declared.ranges.Range.TheVariants.{All}
use Rattle.gm_plan.specs.Inside.{is_inside}
use Rattle.gm_plan.specs.Spans.{spans_in, spans_of, span_behind, value_end}
use Rattle.gm_plan.proofs.Within.{within_is, code_end, bin_end, bin_code_end, prefix_end_alone}

abbrev pub Begins : List ℕ → List ℕ → Type 0
Begins prefix key = (rest : List ℕ) × (key ≡ prefix ++ rest)

pub record BeginLaws : Type 0 where
  pub codes : (t : Specification) (kind : IndexKind) (shard low high : ℕ) (key : List ℕ)
      → shard < 255
      → is_from_to (code_front (prefix_of t kind) shard low)
      (after_of (code_front (prefix_of t kind) shard high)) key ≡ true
      → Begins (prefix_of t kind) key
  pub in_bin : (t : Specification) (kind : IndexKind) (shard bin low high : ℕ) (key : List ℕ)
      → shard < 255
      → is_from_to (bin_code_front (prefix_of t kind) shard bin low)
      (after_of (bin_code_front (prefix_of t kind) shard bin high)) key ≡ true
      → Begins (prefix_of t kind) key
  pub bins : (t : Specification) (kind : IndexKind) (shard first last : ℕ) (key : List ℕ)
      → shard < 255
      → is_from_to (bin_front (prefix_of t kind) shard first)
      (after_of (bin_front (prefix_of t kind) shard last)) key ≡ true
      → Begins (prefix_of t kind) key
  pub values : (prefix low high key : List ℕ)
      → is_from_to (prefix ++ low) (Some (prefix ++ high)) key ≡ true → Begins prefix key
  pub to_the_end : (t : Specification) (kind : IndexKind) (low key : List ℕ) → IsType t
      → has_index t kind ≡ true
      → is_from_to (prefix_of t kind ++ low) (after_of (prefix_of t kind)) key ≡ true
      → Begins (prefix_of t kind) key

module _ (laws : BeginLaws) (s : Specification) (kind : IndexKind) (typed : IsType s)
    (has : has_index s kind ≡ true) (key : List ℕ) where
  begins_values : (low : List ℕ) (high : Option (List ℕ))
      → is_within (prefix_of s kind ++ low) (value_end (prefix_of s kind) high) key ≡ true
      → Begins (prefix_of s kind) key
  begins_values low None h =
      laws.to_the_end s kind low key typed has
      (sym (within_is (prefix_of s kind ++ low) (prefix_of s kind) key
      (prefix_end_alone s kind)) ∙ h)
  begins_values low (Some high) h = laws.values (prefix_of s kind) low high key h

  begins : (shard : ℕ) (range : Range) → shard < 255
      → is_within (span_behind (prefix_of s kind) shard range).0
      (span_behind (prefix_of s kind) shard range).1 key ≡ true → Begins (prefix_of s kind) key
  begins shard (Codes low high level) few h =
      laws.codes s kind shard low high key few
      (sym (within_is (code_front (prefix_of s kind) shard low)
      (code_front (prefix_of s kind) shard high) key (code_end s kind shard high)) ∙ h)
  begins shard (InBin number low high level) few h =
      laws.in_bin s kind shard number low high key few
      (sym (within_is (bin_code_front (prefix_of s kind) shard number low)
      (bin_code_front (prefix_of s kind) shard number high) key
      (bin_code_end s kind shard number high)) ∙ h)
  begins shard (Span first last) few h =
      laws.bins s kind shard first last key few
      (sym (within_is (bin_front (prefix_of s kind) shard first)
      (bin_front (prefix_of s kind) shard last) key (bin_end s kind shard last)) ∙ h)
  begins shard (Values low high) few h = begins_values low high h
  begins shard (OneId id) few h =
      laws.values (prefix_of s kind) id (id ++ 0 ∷ []) key
      (subst (λ end. is_within (prefix_of s kind ++ id) end key ≡ true)
      (append_assoc (prefix_of s kind) id (0 ∷ [])) h)
  begins shard All few h =
      laws.to_the_end s kind [] key typed has
      (subst (λ low. is_from_to low (after_of (prefix_of s kind)) key ≡ true)
      (sym (append-nil (prefix_of s kind)))
      (sym (within_is (prefix_of s kind) (prefix_of s kind) key (prefix_end_alone s kind)) ∙ h))

  begins_shard : (shard : ℕ) (ranges : List Range) → shard < 255
      → is_inside key (spans_in (prefix_of s kind) ranges shard) ≡ true
      → Begins (prefix_of s kind) key
  begins_shard shard [] few h = absurd (true≢false (sym h))
  begins_shard shard (range ∷ ranges) few h =
      by (or_cases (is_within (span_behind (prefix_of s kind) shard range).0
      (span_behind (prefix_of s kind) shard range).1 key)
      (is_inside key (spans_in (prefix_of s kind) ranges shard)) h)
      (λ there. begins_shard shard ranges few there)
    where
      by : (is_within (span_behind (prefix_of s kind) shard range).0
          (span_behind (prefix_of s kind) shard range).1 key ≡ true)
          ⊎ (is_inside key (spans_in (prefix_of s kind) ranges shard) ≡ true)
          → (is_inside key (spans_in (prefix_of s kind) ranges shard) ≡ true
          → Begins (prefix_of s kind) key) → Begins (prefix_of s kind) key
      by (inl here) rec = begins shard range few here
      by (inr there) rec = rec there

  begins_shards : (from n : ℕ) (ranges : List Range) → from + n ≤ 255
      → is_inside key (flat_map (spans_in (prefix_of s kind) ranges) (range_with_len from n)) ≡ true
      → Begins (prefix_of s kind) key
  begins_shards from zero ranges few h = absurd (true≢false (sym h))
  begins_shards from (suc n) ranges few h =
      by (or_cases (is_inside key (spans_in (prefix_of s kind) ranges from))
      (is_inside key
      (flat_map (spans_in (prefix_of s kind) ranges) (range_with_len (from + 1) n)))
      (sym (list_any-append (λ span. is_within span.0 span.1 key)
      (spans_in (prefix_of s kind) ranges from)
      (flat_map (spans_in (prefix_of s kind) ranges) (range_with_len (from + 1) n))) ∙ h))
      (λ here. begins_shard from ranges (omega arith) here)
      (λ there. begins_shards (from + 1) n ranges (omega arith) there)
    where
      by : (is_inside key (spans_in (prefix_of s kind) ranges from) ≡ true)
          ⊎ (is_inside key
          (flat_map (spans_in (prefix_of s kind) ranges) (range_with_len (from + 1) n)) ≡ true)
          → (is_inside key (spans_in (prefix_of s kind) ranges from) ≡ true
          → Begins (prefix_of s kind) key)
          → (is_inside key
          (flat_map (spans_in (prefix_of s kind) ranges) (range_with_len (from + 1) n)) ≡ true
          → Begins (prefix_of s kind) key) → Begins (prefix_of s kind) key
      by (inl here) one rec = one here
      by (inr there) one rec = rec there

-- a key of a feature that is inside is one of the index
pub of_the_index : BeginLaws
    → ((t : Specification) (kind : IndexKind) (feature : Feature) (key : List ℕ) → Fits t feature
    → key_of t kind feature ≡ Some key
    → (middle : List ℕ) × IsLaidOut t kind key middle feature.id)
    → ((s t : Specification) (one other : IndexKind) (x y : List ℕ) → IsType s → IsType t
    → has_index s one ≡ true → has_index t other ≡ true
    → prefix_of s one ++ x ≡ prefix_of t other ++ y
    → (s.number ≡ t.number) × (one ≡ other) × (x ≡ y))
    → (s u : Specification) (kind other : IndexKind) (ranges : KeyRanges) (f : Feature)
    (key : List ℕ) → IsType s → IsType u → has_index s kind ≡ true → has_index u other ≡ true
    → ranges.shards ≤ 255 → Fits u f
    → key_of u other f ≡ Some key → is_inside key (spans_of s kind ranges) ≡ true
    → (s.number ≡ u.number) × (kind ≡ other)
of_the_index laws laid apart s u kind other ranges f key typed typed' has has' few fits is inside =
    let begun = begins_shards laws s kind typed has key 0 ranges.shards ranges.ranges
    (omega arith) inside in
    let parts = laid u other f key fits is in
    let same = apart s u kind other begun.0 (parts.0 ++ f.id) typed typed' has has'
    (sym begun.1 ∙ parts.1.parts) in
    (same.0, same.1)
