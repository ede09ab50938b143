-- Places in rows whose keys rise.
use Rattle.std.proofs.Common.{◌≡◌, List, [], ◌∷◌, ◌++◌, append_assoc, ℕ, Bool, true, false}
use Rattle.std.proofs.Common.{true≢false, cond, not, ◌&&◌, refl, sym, ap, subst, ◌∙◌}
use Rattle.std.specs.Prelude.{Option, None, Some}
use Rattle.std.specs.Ordering.{nat_cmp, is_le, is_gt, ordering_reverse}
use Rattle.std.specs.Cmp.{alike_right, tied_itself}
use Rattle.std.specs.Cmp.Lexicographic.{slice_cmp, nat_list_cmp_total}
use Rattle.std.specs.declared.cmp.Ordering.{Ordering}
use Rattle.std.specs.declared.cmp.Ordering.TheVariants.{Less, Equal, Greater}
use Rattle.std.specs.List.{AllByRecursion}
use Rattle.std.specs.List.Sorted.{IsStrictlySortedBy}
use Rattle.std.specs.Map.{keys_of}
use denote.Ref.{Bor}
use Rattle.gm_table.specs.Sorted.{Rows, IsRising, between}
use Rattle.gm_table.specs.Cursor.{pending, rows_from, rows_below, rows_after, IsClear, IsLastOf}

-- ---- keys in order
less_le : (a b c : List ℕ) → slice_cmp nat_cmp a b ≡ Less → is_le (slice_cmp nat_cmp b c) ≡ true
    → slice_cmp nat_cmp a c ≡ Less
less_le a b c below up =
    elim (slice_cmp nat_cmp b c) as
    (λ r. slice_cmp nat_cmp b c ≡ r → is_le r ≡ true → slice_cmp nat_cmp a c ≡ Less) [
      | Less ↦ λ e _. nat_list_cmp_total.trans a b c below e
      | Equal ↦ λ e _. sym (alike_right nat_list_cmp_total b c a e) ∙ below
      | Greater ↦ λ _ h. absurd (true≢false (sym h))
    ] refl up

pub le_trans : (a b c : List ℕ) → is_le (slice_cmp nat_cmp a b) ≡ true
    → is_le (slice_cmp nat_cmp b c) ≡ true → is_le (slice_cmp nat_cmp a c) ≡ true
le_trans a b c first second =
    elim (slice_cmp nat_cmp a b) as
    (λ r. slice_cmp nat_cmp a b ≡ r → is_le r ≡ true → is_le (slice_cmp nat_cmp a c) ≡ true) [
      | Less ↦ λ e _. ap is_le (less_le a b c e second)
      | Equal ↦ λ e _. ap is_le (nat_list_cmp_total.congr a b c e) ∙ second
      | Greater ↦ λ _ h. absurd (true≢false (sym h))
    ] refl first

-- where low is not up to a key, nothing that low is up to is
not_le : (low high key : List ℕ) → is_le (slice_cmp nat_cmp low high) ≡ true
    → is_le (slice_cmp nat_cmp low key) ≡ false → is_le (slice_cmp nat_cmp high key) ≡ false
not_le low high key up away =
    elim (is_le (slice_cmp nat_cmp high key)) as
    (λ b. is_le (slice_cmp nat_cmp high key) ≡ b → b ≡ false) [
      | true ↦ λ e. absurd (true≢false (sym (le_trans low high key up e) ∙ away))
      | false ↦ λ _. refl
    ] refl

-- ---- rows after a row that is at a key or after it
pub all_from : (low key : List ℕ) (rows : Rows) → is_le (slice_cmp nat_cmp low key) ≡ true
    → AllByRecursion (λ other. slice_cmp nat_cmp key other ≡ Less) (keys_of rows)
    → rows_from low rows ≡ rows
all_from low key [] up above = refl
all_from low key (row ∷ rows) up above =
    ap (λ b. cond b (row ∷ rows_from low rows) (rows_from low rows))
    (le_trans low key row.0 up (ap is_le above.0))
    ∙ ap (λ later. row ∷ later) (all_from low key rows up above.1)

outside : (a b : Bool) → b ≡ true → (a && not b) ≡ false
outside true b past = ap not past
outside false b past = refl

none_within : (low high key : List ℕ) (rows : Rows) → is_le (slice_cmp nat_cmp high key) ≡ true
    → AllByRecursion (λ other. slice_cmp nat_cmp key other ≡ Less) (keys_of rows)
    → between low high rows ≡ []
none_within low high key [] past above = refl
none_within low high key (row ∷ rows) past above =
    ap (λ b. cond b (row ∷ between low high rows) (between low high rows))
    (outside (is_le (slice_cmp nat_cmp low row.0)) _
    (le_trans high key row.0 past (ap is_le above.0)))
    ∙ none_within low high key rows past above.1

-- ---- the rows of a span, from its low end on
pub below-is : (low high : List ℕ) (rows : Rows) → IsRising rows
    → rows_below high (rows_from low rows) ≡ between low high rows
unfolding IsStrictlySortedBy
below-is low high [] rising = refl
below-is low high (row ∷ rows) rising =
    elim (is_le (slice_cmp nat_cmp low row.0)) as
    (λ b. rows_below high (cond b (row ∷ rows_from low rows) (rows_from low rows))
    ≡ cond (b && not (is_le (slice_cmp nat_cmp high row.0))) (row ∷ between low high rows)
    (between low high rows)) [
      | true ↦ elim (is_le (slice_cmp nat_cmp high row.0)) as
          (λ b. is_le (slice_cmp nat_cmp high row.0) ≡ b
          → cond b [] (row ∷ rows_below high (rows_from low rows))
          ≡ cond (not b) (row ∷ between low high rows) (between low high rows)) [
            | true ↦ λ past. sym (none_within low high row.0 rows past rising.0)
            | false ↦ λ _. ap (λ later. row ∷ later) (below-is low high rows rising.1)
          ] refl
      | false ↦ below-is low high rows rising.1
    ]

pub after-is : (low high : List ℕ) (rows : Rows) → is_le (slice_cmp nat_cmp low high) ≡ true
    → IsRising rows → rows_after high (rows_from low rows) ≡ rows_from high rows
unfolding IsStrictlySortedBy
after-is low high [] up rising = refl
after-is low high (row ∷ rows) up rising =
    elim (is_le (slice_cmp nat_cmp low row.0)) as
    (λ b. is_le (slice_cmp nat_cmp low row.0) ≡ b
    → rows_after high (cond b (row ∷ rows_from low rows) (rows_from low rows))
    ≡ cond (is_le (slice_cmp nat_cmp high row.0)) (row ∷ rows_from high rows)
    (rows_from high rows)) [
      | true ↦ λ here. elim (is_le (slice_cmp nat_cmp high row.0)) as
          (λ b. is_le (slice_cmp nat_cmp high row.0) ≡ b
          → cond b (row ∷ rows_from low rows) (rows_after high (rows_from low rows))
          ≡ cond b (row ∷ rows_from high rows) (rows_from high rows)) [
            | true ↦ λ past. ap (λ later. row ∷ later)
                (all_from low row.0 rows here rising.0
                ∙ sym (all_from high row.0 rows past rising.0))
            | false ↦ λ _. after-is low high rows up rising.1
          ] refl
      | false ↦ λ away. after-is low high rows up rising.1
          ∙ sym (ap (λ b. cond b (row ∷ rows_from high rows) (rows_from high rows))
          (not_le low high row.0 up away))
    ] refl

-- the rows after those below the key are those from the key on
pub after-from : (low : List ℕ) (rows : Rows) → IsRising rows
    → rows_after low rows ≡ rows_from low rows
unfolding IsStrictlySortedBy
after-from low [] rising = refl
after-from low (row ∷ rows) rising =
    elim (is_le (slice_cmp nat_cmp low row.0)) as
    (λ b. is_le (slice_cmp nat_cmp low row.0) ≡ b
    → cond b (row ∷ rows) (rows_after low rows)
    ≡ cond b (row ∷ rows_from low rows) (rows_from low rows)) [
      | true ↦ λ here. ap (λ later. row ∷ later) (sym (all_from low row.0 rows here rising.0))
      | false ↦ λ _. after-from low rows rising.1
    ] refl

-- ---- a span that begins later has no more rows
keeps_none_at : (c : Bool) (row : List ℕ × List ℕ) (fewer : Rows) → fewer ≡ []
    → cond (c && false) (row ∷ fewer) fewer ≡ []
keeps_none_at true row fewer none = none
keeps_none_at false row fewer none = none

keeps_none : (a b c : Bool) (row : List ℕ × List ℕ) (more fewer : Rows) → (c ≡ true → a ≡ true)
    → (more ≡ [] → fewer ≡ []) → cond (a && not b) (row ∷ more) more ≡ []
    → cond (c && not b) (row ∷ fewer) fewer ≡ []
keeps_none true true c row more fewer up rest none = keeps_none_at c row fewer (rest none)
keeps_none true false c row more fewer up rest none = cc
keeps_none false b true row more fewer up rest none = absurd (true≢false (sym (up refl)))
keeps_none false b false row more fewer up rest none = rest none

pub between-narrower : (from low high : List ℕ) (rows : Rows)
    → is_le (slice_cmp nat_cmp from low) ≡ true → between from high rows ≡ []
    → between low high rows ≡ []
between-narrower from low high [] up none = refl
between-narrower from low high (row ∷ rows) up none =
    keeps_none (is_le (slice_cmp nat_cmp from row.0)) (is_le (slice_cmp nat_cmp high row.0))
    (is_le (slice_cmp nat_cmp low row.0)) row (between from high rows) (between low high rows)
    (λ here. le_trans from low row.0 up here) (between-narrower from low high rows up) none

-- ---- what a clear place says
pub clear-below : (high : List ℕ) (place : Option (Bor (List ℕ) × Bor (List ℕ))) (rest : Rows)
    → IsClear high place → rows_below high (pending place rest) ≡ []
clear-below high None rest clear = refl
clear-below high (Some row) rest clear =
    ap (λ b. cond b [] ((row.0.now, row.1.now) ∷ rows_below high rest)) clear

pub clear-after : (high : List ℕ) (place : Option (Bor (List ℕ) × Bor (List ℕ))) (rest : Rows)
    → IsClear high place → rows_after high (pending place rest) ≡ pending place rest
clear-after high None rest clear = refl
clear-after high (Some row) rest clear =
    ap (λ b. cond b ((row.0.now, row.1.now) ∷ rest) (rows_after high rest)) clear

-- ---- a clear place, from a key that the span does not begin before
pub clear-none : (from low high : List ℕ) (rows : Rows)
    (place : Option (Bor (List ℕ) × Bor (List ℕ))) (rest : Rows) → IsRising rows
    → pending place rest ≡ rows_from from rows
    → is_le (slice_cmp nat_cmp from low) ≡ true → IsClear high place → between low high rows ≡ []
clear-none from low high rows place rest rising at up clear =
    between-narrower from low high rows up
    (sym (below-is from high rows rising) ∙ sym (ap (rows_below high) at)
    ∙ clear-below high place rest clear)

pub not_up_to : (r : Ordering) → is_le r ≡ false → is_gt r ≡ true
not_up_to Less e = absurd (true≢false e)
not_up_to Equal e = absurd (true≢false e)
not_up_to Greater e = refl

-- ---- the last of the rows
refl_le : (key : List ℕ) → is_le (slice_cmp nat_cmp key key) ≡ true
refl_le key = ap is_le (tied_itself nat_list_cmp_total key)

turned_le : (a b : List ℕ) (r : Ordering) → slice_cmp nat_cmp a b ≡ r → is_le r ≡ false
    → is_le (slice_cmp nat_cmp b a) ≡ true
turned_le a b Less is away = absurd (true≢false away)
turned_le a b Equal is away = absurd (true≢false away)
turned_le a b Greater is away = ap is_le (nat_list_cmp_total.antisymm b a ∙ ap ordering_reverse is)

-- a key that another does not reach is below it
pub not_reached : (a b : List ℕ) → is_le (slice_cmp nat_cmp a b) ≡ false
    → is_le (slice_cmp nat_cmp b a) ≡ true
not_reached a b away = turned_le a b (slice_cmp nat_cmp a b) refl away

later_key : (P : List ℕ → Type 0) (front : Rows) (row : List ℕ × List ℕ) (later : Rows)
    → AllByRecursion P (keys_of (front ++ row ∷ later)) → P row.0
later_key P [] row later all = all.0
later_key P (x ∷ front) row later all = later_key P front row later all.1

from_there : (front : Rows) (row : List ℕ × List ℕ) (later : Rows) → IsRising (front ++ row ∷ later)
    → rows_from row.0 (front ++ row ∷ later) ≡ row ∷ later
unfolding IsStrictlySortedBy
from_there [] row later rising =
    ap (λ b. cond b (row ∷ rows_from row.0 later) (rows_from row.0 later)) (refl_le row.0)
    ∙ ap (λ rows. row ∷ rows) (all_from row.0 row.0 later (refl_le row.0) rising.0)
from_there (x ∷ front) row later rising =
    let below : slice_cmp nat_cmp x.0 row.0 ≡ Less =
    later_key (λ other. slice_cmp nat_cmp x.0 other ≡ Less) front row later rising.0 in
    let away : is_le (slice_cmp nat_cmp row.0 x.0) ≡ false =
    ap is_le (nat_list_cmp_total.antisymm row.0 x.0 ∙ ap ordering_reverse below) in
    ap (λ b. cond b (x ∷ rows_from row.0 (front ++ row ∷ later))
    (rows_from row.0 (front ++ row ∷ later))) away ∙ from_there front row later rising.1

-- the last rows are those from the first of them on
pub last-from : (row : List ℕ × List ℕ) (later all : Rows) → IsLastOf (row ∷ later) all
    → IsRising all → rows_from row.0 all ≡ row ∷ later
last-from row later all is rising =
    ap (rows_from row.0) is.parts ∙ from_there is.front row later (subst IsRising is.parts rising)

cut : (low : List ℕ) (rows : Rows) → rows ≡ rows_below low rows ++ rows_after low rows
cut low [] = refl
cut low (row ∷ rows) =
    elim (is_le (slice_cmp nat_cmp low row.0)) as
    (λ b. row ∷ rows
    ≡ cond b [] (row ∷ rows_below low rows) ++ cond b (row ∷ rows) (rows_after low rows)) [
      | true ↦ refl
      | false ↦ ap (λ later. row ∷ later) (cut low rows)
    ]

-- and the rows from a key on are the last
pub from-last : (low : List ℕ) (rows : Rows) → IsRising rows → IsLastOf (rows_from low rows) rows
from-last low rows rising =
    record {
      front = rows_below low rows;
      parts = cut low rows
          ∙ ap (λ last. rows_below low rows ++ last) (after-from low rows rising);
    }

pub less-last : (row : List ℕ × List ℕ) (later all : Rows) → IsLastOf (row ∷ later) all
    → IsLastOf later all
less-last row later all is =
    record {
      front = is.front ++ row ∷ [];
      parts = is.parts ∙ sym (append_assoc is.front (row ∷ []) later);
    }
