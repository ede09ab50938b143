-- The keys of identifiers that are listed are read.
use Rattle.std.proofs.Common.{◌≡◌, ℕ, true, false, List, [], ◌∷◌, ◌++◌, map, refl, sym, ap, ◌∙◌}
use Rattle.std.proofs.Common.{true≢false, ◌⊎◌, inl, inr, Some, arith, append-nil}
use Rattle.std.proofs.lemmas.Bool.{or_left, or_right, or_cases}
use Rattle.std.specs.Prelude.{nat_eq}
use Rattle.std.specs.List.{list_any}
use Rattle.std.specs.Ordering.{nat_cmp, is_le}
use Rattle.std.specs.Cmp.Lexicographic.{slice_cmp, pointwise, bytes_decides}
use Rattle.std.specs.Str.{bytes_eq}
use Rattle.gm_base.proofs.Numbers.{none_is_least}
use Rattle.gm_lexi.specs.Ends.{after_of, is_from_to}
use Rattle.gm_table.specs.Sorted.{is_within}
use Rattle.gm_types.specs.declared.index.IndexKind.{IndexKind}
use Rattle.gm_types.specs.declared.index.IndexKind.TheVariants.{Id}
use Rattle.gm_types.specs.Specification.{Specification}
use Rattle.gm_feature.specs.declared.feature.Feature.{Feature}
use Rattle.gm_filter.specs.Tree.{Tree}
use Rattle.gm_keys.specs.Key.{prefix_of, key_of, front_of}
use Rattle.gm_bounds.specs.declared.bound.Bound.{Bound}
use Rattle.gm_bounds.specs.declared.bound.Bound.TheVariants.{World, Listed}
use Rattle.gm_bounds.specs.declared.ranges.Range.TheVariants.{OneId}
use Rattle.gm_bounds.specs.Found.{IsFound}
use Rattle.gm_bounds.specs.Identifiers.{ids_of}
use Rattle.gm_plan.specs.Inside.{is_inside, IsRead}
use Rattle.gm_plan.specs.KeyRanges.{id_ranges}
use Rattle.gm_plan.specs.Spans.{spans_in, end_of}
use Rattle.gm_plan.proofs.Within.{any_range, prefix_end_alone, within_is}

pub record IdLaws : Type 0 where
  pub to_the_end : (t : Specification) (kind : IndexKind) (low rest : List ℕ)
      → is_from_to (prefix_of t kind ++ low) (after_of (prefix_of t kind))
      (prefix_of t kind ++ rest) ≡ is_le (slice_cmp nat_cmp low rest)
  pub one : (key other : List ℕ)
      → is_from_to key (Some (key ++ 0 ∷ [])) other ≡ pointwise nat_eq key other

module _ (laws : IdLaws) (s : Specification) (id : List ℕ) where
  abbrev key : List ℕ
  key = prefix_of s Id ++ id

  in_all : is_within (prefix_of s Id) (end_of (prefix_of s Id)) key ≡ true
  in_all =
      within_is (prefix_of s Id) (prefix_of s Id) key (prefix_end_alone s Id)
      ∙ ap (λ low. is_from_to low (after_of (prefix_of s Id)) key)
      (sym (append-nil (prefix_of s Id)))
      ∙ laws.to_the_end s Id [] id ∙ none_is_least id

  in_own : (other : List ℕ) → bytes_eq id other ≡ true
      → is_within (prefix_of s Id ++ other) ((prefix_of s Id ++ other) ++ 0 ∷ []) key ≡ true
  in_own other h =
      laws.one (prefix_of s Id ++ other) key
      ∙ (bytes_decides (prefix_of s Id ++ other) key).1
      (ap (λ xs. prefix_of s Id ++ xs) (sym ((bytes_decides id other).0 h)))

  in_listed : (ids : List (List ℕ)) → list_any (bytes_eq id) ids ≡ true
      → is_inside key (spans_in (prefix_of s Id) (map (λ i. OneId i) ids) 0) ≡ true
  in_listed [] h = absurd (true≢false (sym h))
  in_listed (other ∷ ids) h =
      by (or_cases (bytes_eq id other) (list_any (bytes_eq id) ids) h)
      (λ there. in_listed ids there)
    where
      by : (bytes_eq id other ≡ true) ⊎ (list_any (bytes_eq id) ids ≡ true)
          → (list_any (bytes_eq id) ids ≡ true
          → is_inside key (spans_in (prefix_of s Id) (map (λ i. OneId i) ids) 0) ≡ true)
          → is_inside key (spans_in (prefix_of s Id) (map (λ i. OneId i) (other ∷ ids)) 0)
          ≡ true
      by (inl here) rec =
          or_left _ (is_inside key (spans_in (prefix_of s Id) (map (λ i. OneId i) ids) 0))
          (in_own other here)
      by (inr there) rec =
          or_right (is_within (prefix_of s Id ++ other) ((prefix_of s Id ++ other) ++ 0 ∷ []) key)
          _ (rec there)

  in_ranges : (b : Bound (List ℕ)) → IsFound (bytes_eq id) b
      → is_inside key (spans_in (prefix_of s Id) (id_ranges b) 0) ≡ true
  in_ranges World h = or_left _ false in_all
  in_ranges (Listed ids) h = in_listed ids h

has_key : (s : Specification) (f : Feature) → key_of s Id f ≡ Some (prefix_of s Id ++ f.id)
unfolding front_of
has_key s f = refl

pub id_read : IdLaws → (s : Specification) (t : Tree) (target : ℕ) (f : Feature)
    → IsFound (bytes_eq f.id) (ids_of t) → IsRead s Id t target f
id_read laws s t target f found = record {
  key = prefix_of s Id ++ f.id;
  has = has_key s f;
  inside = any_range _ (spans_in (prefix_of s Id) (id_ranges (ids_of t))) 0 1 0 (omega arith)
      (in_ranges laws s f.id (ids_of t) found);
}
