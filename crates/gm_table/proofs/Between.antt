-- The rows of a range.
use Rattle.std.proofs.Common.{◌≡◌, true, false, cond, not, ◌&&◌, List, [], ◌∷◌, ℕ, None, refl, sym}
use Rattle.std.proofs.Common.{ap, ◌∙◌}
use Rattle.std.specs.Ordering.{nat_cmp, is_gt, is_le, ordering_reverse}
use Rattle.std.specs.Cmp.{alike_right}
use Rattle.std.specs.Cmp.Lexicographic.{slice_cmp, nat_list_cmp_total}
use Rattle.std.specs.declared.cmp.Ordering.{Ordering}
use Rattle.std.specs.declared.cmp.Ordering.TheVariants.{Less, Equal, Greater}
use Rattle.std.specs.BTreeMap.{is_at}
use Rattle.std.specs.FinMap.{entries, retain_keys, get-retain_keys, slice_cmp-IsAntisymmetric}
use Rattle.std.specs.FinMap.{nat_cmp-IsAntisymmetric}
use Rattle.std.specs.FinMap.Entries.{is_sorted-where_key}
use Rattle.std.proofs.lemmas.Map.Entries.{lookup-filter-keys}
use Rattle.gm_table.specs.Sorted.{Rows, RowMap, IsRising, at_key, is_within, between}
use Rattle.gm_table.proofs.Keys.{same_key}
use Rattle.gm_table.proofs.RowMaps.{is_sorted-from, rising-from, entries-rising, at_key-entries}
use Rattle.gm_table.proofs.RowMaps.{rows_of_map}

-- ---- a range that runs backwards has none
is_less : (r s : Ordering) → r ≡ ordering_reverse s → is_gt s ≡ true → r ≡ Less
is_less r Less e h = cc
is_less r Equal e h = cc
is_less r Greater e h = e

-- low <= key and not high <= key, where high < low
outside : (low high key : List ℕ) → is_gt (slice_cmp nat_cmp low high) ≡ true
    → is_within low high key ≡ false
outside low high key gt =
    let below : slice_cmp nat_cmp high low ≡ Less =
    is_less _ _ (nat_list_cmp_total.antisymm high low) gt in
    elim (slice_cmp nat_cmp low key) as
    (λ r. slice_cmp nat_cmp low key ≡ r
    → (is_le r && not (is_le (slice_cmp nat_cmp high key))) ≡ false) [
      | Less ↦ λ e. ap (λ r. not (is_le r)) (nat_list_cmp_total.trans high low key below e)
      | Equal ↦ λ e. ap (λ r. not (is_le r))
          (sym (alike_right nat_list_cmp_total low key high e) ∙ below)
      | Greater ↦ λ _. refl
    ] refl

pub between-backwards : (low high : List ℕ) (rows : Rows)
    → is_gt (slice_cmp nat_cmp low high) ≡ true → between low high rows ≡ []
between-backwards low high [] gt = refl
between-backwards low high (row ∷ rows) gt =
    ap (λ b. cond b (row ∷ between low high rows) (between low high rows))
    (outside low high row.0 gt) ∙ between-backwards low high rows gt

-- ---- the others
pub between-rising : (low high : List ℕ) (rows : Rows) → IsRising rows
    → IsRising (between low high rows)
between-rising low high rows rising =
    rising-from (between low high rows)
    (is_sorted-where_key (slice_cmp nat_cmp) (is_within low high) rows
    (is_sorted-from rows rising))

pub at_key-between : (low high key : List ℕ) (rows : Rows)
    → at_key key (between low high rows) ≡ cond (is_within low high key) (at_key key rows) None
at_key-between low high key rows =
    lookup-filter-keys (is_at (slice_cmp nat_cmp key)) (is_within low high) (is_within low high key)
    (λ other same. ap (is_within low high) (sym (same_key key other same))) rows

pub between-entries : (low high : List ℕ) (all : RowMap)
    → between low high (entries all) ≡ entries (retain_keys all (is_within low high))
between-entries low high all =
    rows_of_map (between low high (entries all)) (retain_keys all (is_within low high))
    (between-rising low high (entries all) (entries-rising all))
    (λ key. at_key-between low high key (entries all)
    ∙ ap (λ o. cond (is_within low high key) o None) (at_key-entries all key)
    ∙ sym (get-retain_keys all (is_within low high) key
    (λ other tied. ap (is_within low high)
    (sym (slice_cmp-IsAntisymmetric nat_cmp-IsAntisymmetric key other tied)))))
