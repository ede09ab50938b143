-- Keys inside the spans that a query reads.
use Rattle.std.specs.Prelude.{◌≡◌, ℕ, ◌≤◌, Bool, true, List, length, Some}
use Rattle.std.specs.List.{list_any}
use Rattle.gm_base.specs.Spans.{Span}
use Rattle.gm_table.specs.Sorted.{is_within}
use Rattle.gm_types.specs.declared.index.IndexKind.{IndexKind}
use Rattle.gm_types.specs.FeatureType.{HoldsTogether}
use Rattle.gm_types.specs.Specification.{Specification}
use Rattle.gm_feature.specs.declared.feature.Feature.{Feature}
use Rattle.gm_feature.specs.Feature.{Fits}
use Rattle.gm_filter.specs.Suitability.{Suits}
use Rattle.gm_filter.specs.Tree.{Tree}
use Rattle.gm_filter.specs.Truth.{is_true}
use Rattle.gm_keys.specs.Key.{key_of}
use Rattle.gm_bounds.specs.Applicability.{does_apply}
use Rattle.gm_bounds.specs.declared.bound.Bound.{Bound}
use Rattle.gm_bounds.specs.declared.bound.Bound.TheVariants.{World, Listed}
use Rattle.gm_plan.specs.KeyRanges.{key_ranges}
use Rattle.gm_plan.specs.Spans.{spans_of}

-- the key is in one of the spans
abbrev pub is_inside : List ℕ → List Span → Bool
is_inside key spans = list_any (λ span. is_within span.0 span.1 key) spans

-- what a query by the index reads
abbrev pub read_spans : Specification → IndexKind → Tree → ℕ → List Span
read_spans s kind t target = spans_of s kind (key_ranges s kind t target)

-- the feature has a key in the index, and it is read
pub record IsRead (s : Specification) (kind : IndexKind) (t : Tree) (target : ℕ)
    (f : Feature) : Type 0 where
  pub key : List ℕ
  pub has : key_of s kind f ≡ Some key
  pub inside : is_inside key (read_spans s kind t target) ≡ true

-- where the index applies, each feature is read of which the filter is true
abbrev pub LosesNone : IndexKind → Type 0
LosesNone kind =
    (s : Specification) (t : Tree) (target : ℕ) (f : Feature) → HoldsTogether s → Suits s t
    → does_apply s kind t ≡ true → 1 ≤ target → Fits s f → is_true f t ≡ true
    → IsRead s kind t target f

-- the ranges number at most the target
abbrev pub KeepsTarget : IndexKind → Type 0
KeepsTarget kind =
    (s : Specification) (t : Tree) (target : ℕ) → 1 ≤ target
    → length (key_ranges s kind t target).ranges ≤ target

-- as many as a bound has, and one where it is the world
abbrev pub count_of : {X : Type 0} → Bound X → ℕ
count_of World = 1
count_of (Listed xs) = length xs
