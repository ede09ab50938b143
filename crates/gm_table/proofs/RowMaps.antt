-- Rows as the entries of a finite map.
use Rattle.std.proofs.Common.{◌≡◌, ℕ, List, [], ◌∷◌, cond, refl, sym, ap, subst, ◌∙◌}
use Rattle.std.specs.Prelude.{T, Some}
use Rattle.std.specs.Ordering.{nat_cmp, is_lt}
use Rattle.std.specs.Cmp.Lexicographic.{slice_cmp, nat_list_cmp_total}
use Rattle.std.specs.List.{AllByRecursion}
use Rattle.std.specs.List.Sorted.{IsStrictlySortedBy}
use Rattle.std.specs.declared.cmp.Ordering.{Ordering}
use Rattle.std.specs.declared.cmp.Ordering.TheVariants.{Less, Equal, Greater}
use Rattle.std.specs.Map.{keys_of}
use Rattle.std.specs.BTreeMap.{is_at}
use Rattle.std.specs.FinMap.{entries, entries_sorted, get, get-entries, find, is_sorted}
use Rattle.std.specs.FinMap.{slice_cmp-IsAntisymmetric, nat_cmp-IsAntisymmetric}
use Rattle.std.specs.FinMap.Entries.{same_entries, below_all}
use Rattle.gm_base.proofs.Booleans.{both_of-T, both_from-T}
use Rattle.gm_table.specs.Sorted.{Rows, RowMap, IsRising, at_key}

pub at_key-find : (key : List ℕ) (rows : Rows) → at_key key rows ≡ find (slice_cmp nat_cmp) key rows
at_key-find key [] = refl
at_key-find key (row ∷ rows) =
    ap (cond (is_at (slice_cmp nat_cmp key) row.0) (Some row.1)) (at_key-find key rows)

below_all-from : (key : List ℕ) (rows : Rows)
    → AllByRecursion (λ other. slice_cmp nat_cmp key other ≡ Less) (keys_of rows)
    → T (below_all (slice_cmp nat_cmp) key rows)
below_all-from key [] below = tt
below_all-from key (row ∷ rows) below =
    both_from-T _ _ (subst (λ r. T (is_lt r)) (sym below.0) tt) (below_all-from key rows below.1)

pub is_sorted-from : (rows : Rows) → IsRising rows → T (is_sorted (slice_cmp nat_cmp) rows)
unfolding IsStrictlySortedBy
is_sorted-from [] rising = tt
is_sorted-from (row ∷ rows) rising =
    both_from-T _ _ (below_all-from row.0 rows rising.0) (is_sorted-from rows rising.1)

less : (o : Ordering) → T (is_lt o) → o ≡ Less
less Less is = refl
less Equal is = absurd is
less Greater is = absurd is

below-from : (key : List ℕ) (rows : Rows) → T (below_all (slice_cmp nat_cmp) key rows)
    → AllByRecursion (λ other. slice_cmp nat_cmp key other ≡ Less) (keys_of rows)
below-from key [] below = tt
below-from key (row ∷ rows) below =
    (less _ ((both_of-T _ _ below).0), below-from key rows ((both_of-T _ _ below).1))

pub rising-from : (rows : Rows) → T (is_sorted (slice_cmp nat_cmp) rows) → IsRising rows
unfolding IsStrictlySortedBy
rising-from [] sorted = tt
rising-from (row ∷ rows) sorted =
    (below-from row.0 rows ((both_of-T _ _ sorted).0), rising-from rows ((both_of-T _ _ sorted).1))

pub same_rows : (one other : Rows) → IsRising one → IsRising other
    → ((key : List ℕ) → at_key key one ≡ at_key key other) → one ≡ other
same_rows one other rising rising' alike =
    same_entries (slice_cmp nat_cmp) nat_list_cmp_total
    (slice_cmp-IsAntisymmetric nat_cmp-IsAntisymmetric) one other (is_sorted-from one rising)
    (is_sorted-from other rising')
    (λ key. sym (at_key-find key one) ∙ alike key ∙ at_key-find key other)

-- ---- the entries of a finite map
pub entries-rising : (all : RowMap) → IsRising (entries all)
entries-rising all = rising-from (entries all) (entries_sorted all)

pub at_key-entries : (all : RowMap) (key : List ℕ) → at_key key (entries all) ≡ get all key
at_key-entries all key = at_key-find key (entries all) ∙ sym (get-entries all key)

pub rows_of_map : (rows : Rows) (all : RowMap) → IsRising rows
    → ((key : List ℕ) → at_key key rows ≡ get all key) → rows ≡ entries all
rows_of_map rows all rising alike =
    same_rows rows (entries all) rising (entries-rising all)
    (λ key. alike key ∙ sym (at_key-entries all key))
