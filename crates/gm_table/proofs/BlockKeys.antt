-- Rows round a key.
use Rattle.std.proofs.Common.{◌≡◌, List, [], ◌∷◌, ◌++◌, ℕ, true, false, true≢false, cond, length}
use Rattle.std.proofs.Common.{◌+◌, refl, sym, ap, subst, ◌∙◌, arith}
use Rattle.std.specs.Prelude.{Option, None, Some, if◌then◌else◌}
use Rattle.std.specs.Ordering.{nat_cmp, is_le, is_eq, ordering_reverse}
use Rattle.std.specs.Cmp.Lexicographic.{slice_cmp, nat_list_cmp_total}
use Rattle.std.specs.declared.cmp.Ordering.{Ordering}
use Rattle.std.specs.declared.cmp.Ordering.TheVariants.{Less, Equal, Greater}
use Rattle.std.specs.BTreeMap.{is_at}
use Rattle.std.specs.List.{AllByRecursion}
use Rattle.std.specs.List.Sorted.{IsStrictlySortedBy}
use Rattle.std.specs.Map.{keys_of}
use Rattle.gm_table.specs.Sorted.{Rows, IsRising, at_key}
use Rattle.gm_table.specs.Cursor.{rows_below, rows_after}
use Rattle.gm_table.specs.Blocks.{IsGap}
use Rattle.gm_table.specs.Changes.{given_back, restored_at}
use Rattle.gm_table.proofs.Keys.{itself, same_key}
use Rattle.gm_table.proofs.BlockPlaces.{less_of}
use Rattle.gm_table.proofs.BlockLookups.{none_later}
use Rattle.gm_table.proofs.BlockWalks.{below_away}

-- ---- one row more and one fewer
all_more : (P : List ℕ → Type 0) (key bytes : List ℕ) (xs ys : Rows)
    → AllByRecursion P (keys_of (xs ++ ys)) → P key
    → AllByRecursion P (keys_of (xs ++ (key, bytes) ∷ ys))
all_more P key bytes [] ys all here = (here, all)
all_more P key bytes (x ∷ xs) ys all here = (all.0, all_more P key bytes xs ys all.1 here)

all_fewer : (P : List ℕ → Type 0) (key bytes : List ℕ) (xs ys : Rows)
    → AllByRecursion P (keys_of (xs ++ (key, bytes) ∷ ys)) → AllByRecursion P (keys_of (xs ++ ys))
all_fewer P key bytes [] ys all = all.1
all_fewer P key bytes (x ∷ xs) ys all = (all.0, all_fewer P key bytes xs ys all.1)

all_there : (P : List ℕ → Type 0) (key bytes : List ℕ) (xs ys : Rows)
    → AllByRecursion P (keys_of (xs ++ (key, bytes) ∷ ys)) → P key
all_there P key bytes [] ys all = all.0
all_there P key bytes (x ∷ xs) ys all = all_there P key bytes xs ys all.1

rising_more : (key bytes : List ℕ) (xs ys : Rows) → IsRising (xs ++ ys)
    → AllByRecursion (λ other. slice_cmp nat_cmp other key ≡ Less) (keys_of xs)
    → AllByRecursion (λ other. slice_cmp nat_cmp key other ≡ Less) (keys_of ys)
    → IsRising (xs ++ (key, bytes) ∷ ys)
unfolding IsStrictlySortedBy
rising_more key bytes [] ys rising below above = (above, rising)
rising_more key bytes (x ∷ xs) ys rising below above = (
  all_more (λ other. slice_cmp nat_cmp x.0 other ≡ Less) key bytes xs ys rising.0 below.0,
  rising_more key bytes xs ys rising.1 below.1 above,
)

pub rising_fewer : (key bytes : List ℕ) (xs ys : Rows) → IsRising (xs ++ (key, bytes) ∷ ys)
    → IsRising (xs ++ ys)
unfolding IsStrictlySortedBy
rising_fewer key bytes [] ys rising = rising.1
rising_fewer key bytes (x ∷ xs) ys rising = (
  all_fewer (λ other. slice_cmp nat_cmp x.0 other ≡ Less) key bytes xs ys rising.0,
  rising_fewer key bytes xs ys rising.1,
)

pub rising_gap : (key bytes : List ℕ) (xs ys : Rows) → IsRising (xs ++ ys) → IsGap key xs ys
    → IsRising (xs ++ (key, bytes) ∷ ys)
rising_gap key bytes xs ys rising gap = rising_more key bytes xs ys rising gap.below gap.above

below_there : (key bytes : List ℕ) (xs ys : Rows) → IsRising (xs ++ (key, bytes) ∷ ys)
    → AllByRecursion (λ other. slice_cmp nat_cmp other key ≡ Less) (keys_of xs)
unfolding IsStrictlySortedBy
below_there key bytes [] ys rising = tt
below_there key bytes (x ∷ xs) ys rising = (
  all_there (λ other. slice_cmp nat_cmp x.0 other ≡ Less) key bytes xs ys rising.0,
  below_there key bytes xs ys rising.1,
)

above_there : (key bytes : List ℕ) (xs ys : Rows) → IsRising (xs ++ (key, bytes) ∷ ys)
    → AllByRecursion (λ other. slice_cmp nat_cmp key other ≡ Less) (keys_of ys)
unfolding IsStrictlySortedBy
above_there key bytes [] ys rising = rising.0
above_there key bytes (x ∷ xs) ys rising = above_there key bytes xs ys rising.1

-- all other keys are below the key of a row or above it
pub gap_round : (key bytes : List ℕ) (xs ys : Rows) → IsRising (xs ++ (key, bytes) ∷ ys)
    → IsGap key xs ys
gap_round key bytes xs ys rising =
    record {
      below = below_there key bytes xs ys rising;
      above = above_there key bytes xs ys rising;
    }

pub rising_changed : (key bytes others : List ℕ) (xs ys : Rows) → IsRising (xs ++ (key, bytes) ∷ ys)
    → IsRising (xs ++ (key, others) ∷ ys)
rising_changed key bytes others xs ys rising =
    rising_gap key others xs ys (rising_fewer key bytes xs ys rising)
    (gap_round key bytes xs ys rising)

-- ---- what stands at a key
turned_round : (a b : List ℕ) → slice_cmp nat_cmp a b ≡ Less → is_eq (slice_cmp nat_cmp b a) ≡ false
turned_round a b less = ap is_eq (nat_list_cmp_total.antisymm b a ∙ ap ordering_reverse less)

at_back : (key : List ℕ) (xs ys : Rows)
    → AllByRecursion (λ other. slice_cmp nat_cmp other key ≡ Less) (keys_of xs)
    → at_key key (xs ++ ys) ≡ at_key key ys
at_back key [] ys below = refl
at_back key (x ∷ xs) ys below =
    ap (λ b. cond b (Some x.1) (at_key key (xs ++ ys))) (turned_round x.0 key below.0)
    ∙ at_back key xs ys below.1

pub at_there : (key bytes : List ℕ) (xs ys : Rows) → IsGap key xs ys
    → at_key key (xs ++ (key, bytes) ∷ ys) ≡ Some bytes
at_there key bytes xs ys gap =
    at_back key xs ((key, bytes) ∷ ys) gap.below
    ∙ ap (λ b. cond b (Some bytes) (at_key key ys)) (itself key)

pub at_gap : (key : List ℕ) (xs ys : Rows) → IsGap key xs ys → at_key key (xs ++ ys) ≡ None
at_gap key xs ys gap = at_back key xs ys gap.below ∙ none_later key ys gap.above

at_other : (other key bytes : List ℕ) (xs ys : Rows) → is_at (slice_cmp nat_cmp other) key ≡ false
    → at_key other (xs ++ (key, bytes) ∷ ys) ≡ at_key other (xs ++ ys)
at_other other key bytes [] ys apart = ap (λ b. cond b (Some bytes) (at_key other ys)) apart
at_other other key bytes (x ∷ xs) ys apart =
    ap (λ later. cond (is_at (slice_cmp nat_cmp other) x.0) (Some x.1) later)
    (at_other other key bytes xs ys apart)

-- one row more
pub at_more : (other key bytes : List ℕ) (xs ys : Rows) → IsGap key xs ys
    → at_key other (xs ++ (key, bytes) ∷ ys)
    ≡ (if is_at (slice_cmp nat_cmp other) key then Some bytes else at_key other (xs ++ ys))
at_more other key bytes xs ys gap =
    elim (is_at (slice_cmp nat_cmp other) key) as
    (λ b. is_at (slice_cmp nat_cmp other) key ≡ b
    → at_key other (xs ++ (key, bytes) ∷ ys)
    ≡ cond b (Some bytes) (at_key other (xs ++ ys))) [
      | true ↦ λ same. ap (λ k. at_key k (xs ++ (key, bytes) ∷ ys)) (same_key other key same)
          ∙ at_there key bytes xs ys gap
      | false ↦ λ apart. at_other other key bytes xs ys apart
    ] refl

-- one row fewer
pub at_fewer : (other key bytes : List ℕ) (xs ys : Rows) → IsGap key xs ys
    → at_key other (xs ++ ys)
    ≡ (if is_at (slice_cmp nat_cmp other) key then None
    else at_key other (xs ++ (key, bytes) ∷ ys))
at_fewer other key bytes xs ys gap =
    elim (is_at (slice_cmp nat_cmp other) key) as
    (λ b. is_at (slice_cmp nat_cmp other) key ≡ b
    → at_key other (xs ++ ys) ≡ cond b None (at_key other (xs ++ (key, bytes) ∷ ys))) [
      | true ↦ λ same. ap (λ k. at_key k (xs ++ ys)) (same_key other key same)
          ∙ at_gap key xs ys gap
      | false ↦ λ apart. sym (at_other other key bytes xs ys apart)
    ] refl

-- other bytes in a row
pub at_changed : (other key bytes others : List ℕ) (xs ys : Rows) → IsGap key xs ys
    → at_key other (xs ++ (key, others) ∷ ys)
    ≡ (if is_at (slice_cmp nat_cmp other) key then Some others
    else at_key other (xs ++ (key, bytes) ∷ ys))
at_changed other key bytes others xs ys gap =
    elim (is_at (slice_cmp nat_cmp other) key) as
    (λ b. is_at (slice_cmp nat_cmp other) key ≡ b
    → at_key other (xs ++ (key, others) ∷ ys)
    ≡ cond b (Some others) (at_key other (xs ++ (key, bytes) ∷ ys))) [
      | true ↦ λ same. ap (λ k. at_key k (xs ++ (key, others) ∷ ys)) (same_key other key same)
          ∙ at_there key others xs ys gap
      | false ↦ λ apart. at_other other key others xs ys apart
          ∙ sym (at_other other key bytes xs ys apart)
    ] refl

-- ---- a key is given back what it had
none_given : (old : Option (List ℕ)) → given_back old None ≡ None
none_given None = refl
none_given (Some bytes) = refl

pub restored_gap : (other key : List ℕ) (old : Option (List ℕ)) (xs ys : Rows) → IsGap key xs ys
    → at_key other (xs ++ ys) ≡ restored_at other key old (at_key other (xs ++ ys))
restored_gap other key old xs ys gap =
    elim (is_at (slice_cmp nat_cmp other) key) as
    (λ b. is_at (slice_cmp nat_cmp other) key ≡ b
    → at_key other (xs ++ ys)
    ≡ cond b (given_back old (at_key other (xs ++ ys))) (at_key other (xs ++ ys))) [
      | true ↦ λ same.
          let none = ap (λ k. at_key k (xs ++ ys)) (same_key other key same)
          ∙ at_gap key xs ys gap in
          none ∙ sym (ap (given_back old) none ∙ none_given old)
      | false ↦ λ _. refl
    ] refl

pub removed_gap : (other key : List ℕ) (xs ys : Rows) → IsGap key xs ys
    → at_key other (xs ++ ys)
    ≡ (if is_at (slice_cmp nat_cmp other) key then None else at_key other (xs ++ ys))
removed_gap other key xs ys gap =
    elim (is_at (slice_cmp nat_cmp other) key) as
    (λ b. is_at (slice_cmp nat_cmp other) key ≡ b
    → at_key other (xs ++ ys) ≡ cond b None (at_key other (xs ++ ys))) [
      | true ↦ λ same. ap (λ k. at_key k (xs ++ ys)) (same_key other key same)
          ∙ at_gap key xs ys gap
      | false ↦ λ _. refl
    ] refl

pub restored_none : (other key bytes : List ℕ) (xs ys : Rows) → IsGap key xs ys
    → at_key other (xs ++ ys) ≡ restored_at other key None (at_key other (xs ++ (key, bytes) ∷ ys))
restored_none other key bytes xs ys gap = at_fewer other key bytes xs ys gap

pub restored_some : (other key bytes others : List ℕ) (xs ys : Rows) → IsGap key xs ys
    → at_key other (xs ++ (key, others) ∷ ys)
    ≡ restored_at other key (Some others) (at_key other (xs ++ (key, bytes) ∷ ys))
restored_some other key bytes others xs ys gap =
    elim (is_at (slice_cmp nat_cmp other) key) as (λ b. is_at (slice_cmp nat_cmp other) key ≡ b
    → at_key other (xs ++ (key, others) ∷ ys)
    ≡ cond b (given_back (Some others) (at_key other (xs ++ (key, bytes) ∷ ys)))
    (at_key other (xs ++ (key, bytes) ∷ ys))) [
      | true ↦ λ same.
          ap (λ k. at_key k (xs ++ (key, others) ∷ ys)) (same_key other key same)
          ∙ at_there key others xs ys gap
          ∙ sym (ap (given_back (Some others))
          (ap (λ k. at_key k (xs ++ (key, bytes) ∷ ys)) (same_key other key same)
          ∙ at_there key bytes xs ys gap))
      | false ↦ λ apart. at_other other key others xs ys apart
          ∙ sym (at_other other key bytes xs ys apart)
    ] refl

-- ---- the place of a key that no row has
each_less : (key : List ℕ) (xs : Rows)
    → AllByRecursion (λ other. is_le (slice_cmp nat_cmp key other) ≡ false) (keys_of xs)
    → AllByRecursion (λ other. slice_cmp nat_cmp other key ≡ Less) (keys_of xs)
each_less key [] away = tt
each_less key (x ∷ xs) away =
    (less_of key x.0 (slice_cmp nat_cmp key x.0) refl away.0, each_less key xs away.1)

each_more : (key other : List ℕ) (xs : Rows) → slice_cmp nat_cmp key other ≡ Less
    → AllByRecursion (λ k. slice_cmp nat_cmp other k ≡ Less) (keys_of xs)
    → AllByRecursion (λ k. slice_cmp nat_cmp key k ≡ Less) (keys_of xs)
each_more key other [] less above = tt
each_more key other (x ∷ xs) less above =
    (nat_list_cmp_total.trans key other x.0 less above.0, each_more key other xs less above.1)

not_eq_less : (r : Ordering) → is_le r ≡ true → is_eq r ≡ false → r ≡ Less
not_eq_less Less up apart = refl
not_eq_less Equal up apart = absurd (true≢false apart)
not_eq_less Greater up apart = absurd (true≢false (sym up))

-- the rows from a key on, where the first of them has another key
after_above : (key : List ℕ) (rows : Rows) (row : List ℕ × List ℕ) (later : Rows) → IsRising rows
    → rows_after key rows ≡ row ∷ later → is_eq (slice_cmp nat_cmp key row.0) ≡ false
    → AllByRecursion (λ other. slice_cmp nat_cmp key other ≡ Less) (keys_of (rows_after key rows))
unfolding IsStrictlySortedBy
after_above key [] row later rising at apart = tt
after_above key (x ∷ xs) row later rising at apart =
    elim (is_le (slice_cmp nat_cmp key x.0)) as
    (λ b. is_le (slice_cmp nat_cmp key x.0) ≡ b
    → cond b (x ∷ xs) (rows_after key xs) ≡ row ∷ later
    → AllByRecursion (λ other. slice_cmp nat_cmp key other ≡ Less)
    (keys_of (cond b (x ∷ xs) (rows_after key xs)))) [
      | true ↦ λ up e.
          let first : x ≡ row = cc in
          let less = not_eq_less (slice_cmp nat_cmp key x.0) up
          (ap (λ (r : List ℕ × List ℕ). is_eq (slice_cmp nat_cmp key r.0)) first ∙ apart) in
          (less, each_more key x.0 xs less rising.0)
      | false ↦ λ away e. after_above key xs row later rising.1 e apart
    ] refl at

pub gap_none : (key : List ℕ) (rows before from : Rows) → before ≡ rows_below key rows
    → from ≡ rows_after key rows → from ≡ [] → IsGap key before from
gap_none key rows before from below after none = record {
  below = subst (λ xs. AllByRecursion (λ other. slice_cmp nat_cmp other key ≡ Less) (keys_of xs))
      (sym below) (each_less key (rows_below key rows) (below_away key rows));
  above = subst (λ xs. AllByRecursion (λ other. slice_cmp nat_cmp key other ≡ Less) (keys_of xs))
      (sym none) tt;
}

pub gap_some : (key : List ℕ) (rows before from : Rows) (row : List ℕ × List ℕ) (later : Rows)
    → IsRising rows → before ≡ rows_below key rows → from ≡ rows_after key rows → from ≡ row ∷ later
    → is_eq (slice_cmp nat_cmp key row.0) ≡ false → IsGap key before from
gap_some key rows before from row later rising below after first apart = record {
  below = subst (λ xs. AllByRecursion (λ other. slice_cmp nat_cmp other key ≡ Less) (keys_of xs))
      (sym below) (each_less key (rows_below key rows) (below_away key rows));
  above = subst (λ xs. AllByRecursion (λ other. slice_cmp nat_cmp key other ≡ Less) (keys_of xs))
      (sym after) (after_above key rows row later rising (sym after ∙ first) apart);
}

-- ---- all rows, where one is changed, is new or is gone
pub record Changed (key others : List ℕ) (before after : Rows) : Type 0 where
  pub rising : IsRising after
  pub size : length after ≡ length before
  pub at : (other : List ℕ)
      → at_key other after
      ≡ (if is_at (slice_cmp nat_cmp other) key then Some others else at_key other before)
  pub restored : (other : List ℕ)
      → at_key other after ≡ restored_at other key (Some others) (at_key other before)

pub record Added (key bytes : List ℕ) (before after : Rows) : Type 0 where
  pub rising : IsRising after
  pub size : length after ≡ length before + 1
  pub at : (other : List ℕ)
      → at_key other after
      ≡ (if is_at (slice_cmp nat_cmp other) key then Some bytes else at_key other before)
  pub had : at_key key before ≡ None

pub record Taken (key : List ℕ) (before after : Rows) : Type 0 where
  pub rising : IsRising after
  pub size : length before ≡ length after + 1
  pub at : (other : List ℕ)
      → at_key other after
      ≡ (if is_at (slice_cmp nat_cmp other) key then None else at_key other before)
  pub restored : (other : List ℕ)
      → at_key other after ≡ restored_at other key None (at_key other before)

one_more_row : (row : List ℕ × List ℕ) (xs ys : Rows)
    → length (xs ++ row ∷ ys) ≡ length (xs ++ ys) + 1
one_more_row row [] ys = omega arith
one_more_row row (x ∷ xs) ys = let inner = one_more_row row xs ys in omega arith

pub had_there : (key bytes : List ℕ) (before xs ys from : Rows) → before ≡ xs ++ from
    → from ≡ (key, bytes) ∷ ys → IsRising before → at_key key before ≡ Some bytes
had_there key bytes before xs ys from parts first rising =
    let whole : before ≡ xs ++ (key, bytes) ∷ ys = parts ∙ ap (λ some. xs ++ some) first in
    ap (at_key key) whole
    ∙ at_there key bytes xs ys (gap_round key bytes xs ys (subst IsRising whole rising))

pub is_changed : (key bytes others : List ℕ) (before after xs ys from : Rows) → before ≡ xs ++ from
    → from ≡ (key, bytes) ∷ ys → after ≡ xs ++ (key, others) ∷ ys → IsRising before
    → Changed key others before after
is_changed key bytes others before after xs ys from parts first now rising =
    let whole : before ≡ xs ++ (key, bytes) ∷ ys = parts ∙ ap (λ some. xs ++ some) first in
    let rises = subst IsRising whole rising in
    let gap = gap_round key bytes xs ys rises in
    record {
      rising = subst IsRising (sym now) (rising_changed key bytes others xs ys rises);
      size = ap length now ∙ one_more_row (key, others) xs ys
          ∙ sym (one_more_row (key, bytes) xs ys) ∙ ap length (sym whole);
      at = λ other. ap (at_key other) now ∙ at_changed other key bytes others xs ys gap
          ∙ ap (λ some. cond (is_at (slice_cmp nat_cmp other) key) (Some others)
          (at_key other some)) (sym whole);
      restored = λ other. ap (at_key other) now ∙ restored_some other key bytes others xs ys gap
          ∙ ap (λ some. restored_at other key (Some others) (at_key other some)) (sym whole);
    }

pub is_added : (key bytes : List ℕ) (before after xs ys : Rows) → before ≡ xs ++ ys
    → after ≡ xs ++ (key, bytes) ∷ ys → IsGap key xs ys → IsRising before
    → Added key bytes before after
is_added key bytes before after xs ys parts now gap rising = record {
  rising = subst IsRising (sym now) (rising_gap key bytes xs ys (subst IsRising parts rising) gap);
  size = ap length now ∙ one_more_row (key, bytes) xs ys ∙ ap (λ some. length some + 1) (sym parts);
  at = λ other. ap (at_key other) now ∙ at_more other key bytes xs ys gap
      ∙ ap (λ some. cond (is_at (slice_cmp nat_cmp other) key) (Some bytes) (at_key other some))
      (sym parts);
  had = ap (at_key key) parts ∙ at_gap key xs ys gap;
}

pub is_taken : (key bytes : List ℕ) (before after xs ys from : Rows) → before ≡ xs ++ from
    → from ≡ (key, bytes) ∷ ys → after ≡ xs ++ ys → IsRising before → Taken key before after
is_taken key bytes before after xs ys from parts first now rising =
    let whole : before ≡ xs ++ (key, bytes) ∷ ys = parts ∙ ap (λ some. xs ++ some) first in
    let rises = subst IsRising whole rising in
    let gap = gap_round key bytes xs ys rises in
    record {
      rising = subst IsRising (sym now) (rising_fewer key bytes xs ys rises);
      size = ap length whole ∙ one_more_row (key, bytes) xs ys
          ∙ ap (λ some. length some + 1) (sym now);
      at = λ other. ap (at_key other) now ∙ at_fewer other key bytes xs ys gap
          ∙ ap (λ some. cond (is_at (slice_cmp nat_cmp other) key) None (at_key other some))
          (sym whole);
      restored = λ other. ap (at_key other) now ∙ restored_none other key bytes xs ys gap
          ∙ ap (λ some. restored_at other key None (at_key other some)) (sym whole);
    }
