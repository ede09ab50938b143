-- Rows whose keys rise, one more.
use Rattle.std.proofs.Common.{◌≡◌, ◌++◌, ◌∷◌, ℕ, List, [], map}
use Rattle.std.specs.Ordering.{nat_cmp}
use Rattle.std.specs.Cmp.Lexicographic.{slice_cmp, nat_list_cmp_total}
use Rattle.std.specs.declared.cmp.Ordering.TheVariants.{Less}
use Rattle.std.specs.List.{AllByRecursion}
use Rattle.std.specs.List.Sorted.{IsStrictlySortedBy}
use Rattle.std.specs.Map.{keys_of}
use Rattle.gm_table.specs.declared.row.Row.{Row}
use Rattle.gm_table.specs.Sorted.{IsRising}
use Rattle.gm_block.specs.Block.{pair_of, IsAbove}

all_below : (first : List ℕ) (rows : List Row) (row : Row)
    → AllByRecursion (λ key. slice_cmp nat_cmp first key ≡ Less) (keys_of (map pair_of rows))
    → slice_cmp nat_cmp first row.key ≡ Less
    → AllByRecursion (λ key. slice_cmp nat_cmp first key ≡ Less)
    (keys_of (map pair_of (rows ++ row ∷ [])))
all_below first [] row below here = (here, tt)
all_below first (other ∷ rows) row below here = (below.0, all_below first rows row below.1 here)

first_below : (first : Row) (rows : List Row) (key : List ℕ) → IsRising (map pair_of (first ∷ rows))
    → IsAbove (first ∷ rows) key → slice_cmp nat_cmp first.key key ≡ Less
unfolding IsStrictlySortedBy
first_below first [] key rising above = above
first_below first (other ∷ rows) key rising above =
    nat_list_cmp_total.trans first.key other.key key rising.0.0
    (first_below other rows key rising.1 above)

later_above : (first : Row) (rows : List Row) (key : List ℕ) → IsAbove (first ∷ rows) key
    → IsAbove rows key
later_above first [] key above = tt
later_above first (other ∷ rows) key above = above

pub rising-push : (rows : List Row) (row : Row) → IsRising (map pair_of rows) → IsAbove rows row.key
    → IsRising (map pair_of (rows ++ row ∷ []))
unfolding IsStrictlySortedBy
rising-push [] row rising above = (tt, tt)
rising-push (first ∷ rows) row rising above = (
  all_below first.key rows row rising.0 (first_below first rows row.key rising above),
  rising-push rows row rising.1 (later_above first rows row.key above),
)

-- in rows whose keys rise each is above those before it
pub above-from : (rows : List Row) (row : Row) (later : List Row)
    → IsRising (map pair_of (rows ++ row ∷ later)) → IsAbove rows row.key
unfolding IsStrictlySortedBy
above-from [] row later rising = tt
above-from (first ∷ []) row later rising = rising.0.0
above-from (first ∷ other ∷ rows) row later rising = above-from (other ∷ rows) row later rising.1

-- the last row tells
pub above-last : (front : List Row) (last : Row) (key : List ℕ)
    → slice_cmp nat_cmp last.key key ≡ Less → IsAbove (front ++ last ∷ []) key
above-last [] last key below = below
above-last (first ∷ []) last key below = below
above-last (first ∷ other ∷ front) last key below = above-last (other ∷ front) last key below

pub last-above : (front : List Row) (last : Row) (key : List ℕ) → IsAbove (front ++ last ∷ []) key
    → slice_cmp nat_cmp last.key key ≡ Less
last-above [] last key above = above
last-above (first ∷ []) last key above = above
last-above (first ∷ other ∷ front) last key above = last-above (other ∷ front) last key above

pub rising-none : IsRising []
unfolding IsStrictlySortedBy
rising-none = tt
