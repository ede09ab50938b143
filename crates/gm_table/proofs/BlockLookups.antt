-- What stands at a key, by the first row that is not before it.
use Rattle.std.proofs.Common.{◌≡◌, List, [], ◌∷◌, ℕ, true, false, true≢false, cond, refl, sym, ap}
use Rattle.std.proofs.Common.{◌∙◌}
use Rattle.std.specs.Prelude.{Option, None, Some}
use Rattle.std.specs.Ordering.{nat_cmp, is_le, is_eq}
use Rattle.std.specs.Cmp.Lexicographic.{slice_cmp}
use Rattle.std.specs.declared.cmp.Ordering.{Ordering}
use Rattle.std.specs.declared.cmp.Ordering.TheVariants.{Less, Equal, Greater}
use Rattle.std.specs.BTreeMap.{is_at}
use Rattle.std.specs.List.{AllByRecursion}
use Rattle.std.specs.List.Sorted.{IsStrictlySortedBy}
use Rattle.std.specs.Map.{keys_of}
use Rattle.gm_table.specs.Sorted.{Rows, IsRising, at_key}
use Rattle.gm_table.specs.Cursor.{rows_after}
use Rattle.gm_table.proofs.BlockPlaces.{less_le}

-- the bytes of the first row, where its key is the given one
abbrev pub first_at : List ℕ → Rows → Option (List ℕ)
first_at key [] = None
first_at key (row ∷ rows) = cond (is_at (slice_cmp nat_cmp key) row.0) (Some row.1) None

-- no key after the given one is it
pub none_later : (key : List ℕ) (rows : Rows)
    → AllByRecursion (λ k. slice_cmp nat_cmp key k ≡ Less) (keys_of rows) → at_key key rows ≡ None
none_later key [] later = refl
none_later key (row ∷ rows) later =
    ap (λ r. cond (is_eq r) (Some row.1) (at_key key rows)) later.0 ∙ none_later key rows later.1

all_later : (key other : List ℕ) (rows : Rows) → is_le (slice_cmp nat_cmp key other) ≡ true
    → AllByRecursion (λ k. slice_cmp nat_cmp other k ≡ Less) (keys_of rows)
    → AllByRecursion (λ k. slice_cmp nat_cmp key k ≡ Less) (keys_of rows)
all_later key other [] up later = tt
all_later key other (row ∷ rows) up later =
    (less_le key other row.0 up later.0, all_later key other rows up later.1)

apart : (r : Ordering) → is_le r ≡ false → is_eq r ≡ false
apart Less away = absurd (true≢false away)
apart Equal away = absurd (true≢false away)
apart Greater away = refl

pub at_first : (key : List ℕ) (rows : Rows) → IsRising rows
    → at_key key rows ≡ first_at key (rows_after key rows)
unfolding IsStrictlySortedBy
at_first key [] rising = refl
at_first key (row ∷ rows) rising =
    elim (is_le (slice_cmp nat_cmp key row.0)) as
    (λ b. is_le (slice_cmp nat_cmp key row.0) ≡ b
    → at_key key (row ∷ rows) ≡ first_at key (cond b (row ∷ rows) (rows_after key rows))) [
      | true ↦ λ up. ap (λ later. cond (is_at (slice_cmp nat_cmp key) row.0) (Some row.1) later)
          (none_later key rows (all_later key row.0 rows up rising.0))
      | false ↦ λ away. ap (λ b. cond b (Some row.1) (at_key key rows))
          (apart (slice_cmp nat_cmp key row.0) away) ∙ at_first key rows rising.1
    ] refl

-- by the rows from the place of a key
pub none_at : (key : List ℕ) (rows front : Rows) → IsRising rows → front ≡ rows_after key rows
    → front ≡ [] → None ≡ at_key key rows
none_at key rows front rising at none =
    sym (at_first key rows rising ∙ ap (first_at key) (sym at ∙ none))

pub some_at : (key : List ℕ) (rows front : Rows) (row : List ℕ × List ℕ) (later : Rows)
    → IsRising rows → front ≡ rows_after key rows → front ≡ row ∷ later
    → is_eq (slice_cmp nat_cmp key row.0) ≡ true → Some row.1 ≡ at_key key rows
some_at key rows front row later rising at first same =
    sym (at_first key rows rising ∙ ap (first_at key) (sym at ∙ first)
    ∙ ap (λ b. cond b (Some row.1) None) same)

pub apart_at : (key : List ℕ) (rows front : Rows) (row : List ℕ × List ℕ) (later : Rows)
    → IsRising rows → front ≡ rows_after key rows → front ≡ row ∷ later
    → is_eq (slice_cmp nat_cmp key row.0) ≡ false → None ≡ at_key key rows
apart_at key rows front row later rising at first other =
    sym (at_first key rows rising ∙ ap (first_at key) (sym at ∙ first)
    ∙ ap (λ b. cond b (Some row.1) None) other)
