-- Texts that are seen already.
use Rattle.std.specs.Prelude.{◌≡◌, ◌||◌, ℕ, Bool, not, List}
use Rattle.std.specs.BTreeSet.{BTreeSet, contains}
use Rattle.std.specs.Cmp.Lexicographic.{slice_cmp}
use Rattle.std.specs.Ordering.{nat_cmp}
use Rattle.gm_types.specs.Words.{same_text}

abbrev pub has_text : BTreeSet (List ℕ) → List ℕ → Bool
has_text seen text = contains (slice_cmp nat_cmp) seen text

-- the text was new, or not, and is seen afterwards
pub record Notes (before after : BTreeSet (List ℕ)) (text : List ℕ) (is_new : Bool) : Type 0 where
  pub was : is_new ≡ not (has_text before text)
  pub seen : (other : List ℕ)
      → has_text after other ≡ (same_text text other || has_text before other)
