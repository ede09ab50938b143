-- Places in blocks whose keys rise.
use Rattle.std.proofs.Common.{◌≡◌, List, [], ◌∷◌, ◌++◌, ℕ, zero, suc, ◌<◌, ◌≤◌, Bool, true, false}
use Rattle.std.proofs.Common.{true≢false, cond, not, length, take, drop, get_or, refl, sym, ap, ◌∙◌}
use Rattle.std.proofs.Common.{arith, inl, inr, length-append, length-drop}
use Rattle.std.proofs.lemmas.Bool.{cases_lt}
use Rattle.std.proofs.lemmas.List.{length-map}
use Rattle.std.specs.Ordering.{nat_cmp, is_le, ordering_reverse}
use Rattle.std.specs.Cmp.Lexicographic.{slice_cmp, nat_list_cmp_total}
use Rattle.std.specs.declared.cmp.Ordering.{Ordering}
use Rattle.std.specs.declared.cmp.Ordering.TheVariants.{Less, Equal, Greater}
use Rattle.std.specs.List.{AllByRecursion, AllWithin}
use Rattle.std.specs.List.Sorted.{IsStrictlySortedBy, IsPartitionedBy}
use Rattle.std.specs.Map.{keys_of}
use Rattle.gm_base.proofs.Booleans.{true_of_not, false_of_not}
use Rattle.gm_table.specs.declared.row.Row.{Row}
use Rattle.gm_table.specs.declared.blocks.block.Block.{Block}
use Rattle.gm_table.specs.Sorted.{Rows, IsRising}
use Rattle.gm_table.specs.Cursor.{rows_below, rows_after}
use Rattle.gm_table.specs.Blocks.{pair_of, pairs_of, rows_of, lists_of, first_key, IsBlock, IsPlace}
use Rattle.gm_table.specs.Blocks.{rows_at, rows_until}
use Rattle.gm_table.proofs.Places.{le_trans, not_reached}

-- ---- keys
pub not_le_after : (a b : List ℕ) → slice_cmp nat_cmp a b ≡ Less
    → is_le (slice_cmp nat_cmp b a) ≡ false
not_le_after a b less = ap is_le (nat_list_cmp_total.antisymm b a ∙ ap ordering_reverse less)

pub less_of : (a b : List ℕ) (r : Ordering) → slice_cmp nat_cmp a b ≡ r → is_le r ≡ false
    → slice_cmp nat_cmp b a ≡ Less
less_of a b Less is away = absurd (true≢false away)
less_of a b Equal is away = absurd (true≢false away)
less_of a b Greater is away = nat_list_cmp_total.antisymm b a ∙ ap ordering_reverse is

pub less_le : (a b c : List ℕ) → is_le (slice_cmp nat_cmp a b) ≡ true → slice_cmp nat_cmp b c ≡ Less
    → slice_cmp nat_cmp a c ≡ Less
less_le a b c up less =
    elim (slice_cmp nat_cmp a b) as
    (λ r. slice_cmp nat_cmp a b ≡ r → is_le r ≡ true → slice_cmp nat_cmp a c ≡ Less) [
      | Less ↦ λ e _. nat_list_cmp_total.trans a b c e less
      | Equal ↦ λ e _. nat_list_cmp_total.congr a b c e ∙ less
      | Greater ↦ λ _ h. absurd (true≢false (sym h))
    ] refl up

-- a key that is not reached by one above it
not_le_below : (key a b : List ℕ) → slice_cmp nat_cmp a b ≡ Less
    → is_le (slice_cmp nat_cmp b key) ≡ true → is_le (slice_cmp nat_cmp key a) ≡ false
not_le_below key a b less up =
    elim (is_le (slice_cmp nat_cmp key a)) as
    (λ t. is_le (slice_cmp nat_cmp key a) ≡ t → t ≡ false) [
      | true ↦ λ e. absurd (true≢false (sym (le_trans b key a up e) ∙ not_le_after a b less))
      | false ↦ λ _. refl
    ] refl

-- ---- rows of a block in order
key_at : (P : List ℕ → Type 0) (rows : List Row) → AllByRecursion P (keys_of (pairs_of rows))
    → (i : ℕ) (d : Row) → i < length rows → P (get_or rows i d).key
key_at P [] all i d within = absurd (omega arith)
key_at P (row ∷ rows) all zero d within = all.0
key_at P (row ∷ rows) all (suc i) d within = key_at P rows all.1 i d (omega arith)

keys_rise : (rows : List Row) → IsRising (pairs_of rows) → (i j : ℕ) (d : Row) → i < j
    → j < length rows → slice_cmp nat_cmp (get_or rows i d).key (get_or rows j d).key ≡ Less
unfolding IsStrictlySortedBy
keys_rise [] rising i j d less within = absurd (omega arith)
keys_rise (row ∷ rows) rising i zero d less within = absurd (omega arith)
keys_rise (row ∷ rows) rising zero (suc j) d less within =
    key_at (λ k. slice_cmp nat_cmp row.key k ≡ Less) rows rising.0 j d (omega arith)
keys_rise (row ∷ rows) rising (suc i) (suc j) d less within =
    keys_rise rows rising.1 i j d (omega arith) (omega arith)

abbrev pub is_before : List ℕ → Row → Bool
is_before key row = not (is_le (slice_cmp nat_cmp key row.key))

before_before : (key a b : List ℕ) → slice_cmp nat_cmp a b ≡ Less
    → not (is_le (slice_cmp nat_cmp key b)) ≡ true → not (is_le (slice_cmp nat_cmp key a)) ≡ true
before_before key a b less away =
    elim (is_le (slice_cmp nat_cmp key a)) as
    (λ t. is_le (slice_cmp nat_cmp key a) ≡ t → not t ≡ true) [
      | true ↦ λ e. absurd
          (true≢false (sym (le_trans key a b e (ap is_le less)) ∙ false_of_not _ away))
      | false ↦ λ _. refl
    ] refl

pub partitioned : (key : List ℕ) (rows : List Row) → IsRising (pairs_of rows)
    → IsPartitionedBy (is_before key) rows
partitioned key rows rising i j d up within holds = elim (cases_lt i j) [
  | inl less ↦ before_before key (get_or rows i d).key (get_or rows j d).key
      (keys_rise rows rising i j d less within) holds
  | inr over ↦ let same : i ≡ j = omega arith in rw same holds
]

pub record Parts (key : List ℕ) (rows : List Row) (i : ℕ) : Type 0 where
  pub before : pairs_of (take i rows) ≡ rows_below key (pairs_of rows)
  pub from : pairs_of (drop i rows) ≡ rows_after key (pairs_of rows)

pub parts_at : (key : List ℕ) (rows : List Row) (i : ℕ)
    → AllWithin (λ row. is_before key row ≡ true) rows 0 i
    → AllWithin (λ row. is_before key row ≡ false) rows i (length rows) → Parts key rows i
parts_at key [] zero before others = record { before = refl; from = refl }
parts_at key [] (suc i) before others = record { before = refl; from = refl }
parts_at key (row ∷ rows) zero before others =
    let reached = true_of_not _ (others 0 row (omega arith) (omega arith)) in
    record {
      before = sym (ap (λ b. cond b [] (pair_of row ∷ rows_below key (pairs_of rows))) reached);
      from = sym (ap
          (λ b. cond b (pair_of row ∷ pairs_of rows) (rows_after key (pairs_of rows))) reached);
    }
parts_at key (row ∷ rows) (suc i) before others =
    let away = false_of_not _ (before 0 row (omega arith) (omega arith)) in
    let rest = parts_at key rows i (λ k d low up. before (suc k) d (omega arith) (omega arith))
    (λ k d low up. others (suc k) d (omega arith) (omega arith)) in
    record {
      before = ap (λ later. pair_of row ∷ later) rest.before
          ∙ sym (ap (λ b. cond b [] (pair_of row ∷ rows_below key (pairs_of rows))) away);
      from = rest.from
          ∙ sym (ap (λ b. cond b (pair_of row ∷ pairs_of rows) (rows_after key (pairs_of rows)))
          away);
    }

-- ---- blocks in order
pub all_back : (P : List ℕ → Type 0) (xs ys : Rows) → AllByRecursion P (keys_of (xs ++ ys))
    → AllByRecursion P (keys_of ys)
all_back P [] ys all = all
all_back P (x ∷ xs) ys all = all_back P xs ys all.1

pub rising_back : (xs ys : Rows) → IsRising (xs ++ ys) → IsRising ys
unfolding IsStrictlySortedBy
rising_back [] ys rising = rising
rising_back (x ∷ xs) ys rising = rising_back xs ys rising.1

all_front : (P : List ℕ → Type 0) (xs ys : Rows) → AllByRecursion P (keys_of (xs ++ ys))
    → AllByRecursion P (keys_of xs)
all_front P [] ys all = tt
all_front P (x ∷ xs) ys all = (all.0, all_front P xs ys all.1)

pub rising_front : (xs ys : Rows) → IsRising (xs ++ ys) → IsRising xs
unfolding IsStrictlySortedBy
rising_front [] ys rising = tt
rising_front (x ∷ xs) ys rising =
    (all_front (λ k. slice_cmp nat_cmp x.0 k ≡ Less) xs ys rising.0, rising_front xs ys rising.1)

-- the rows of one of the blocks
pub block_rises : (blocks : List Block) → IsRising (rows_of (lists_of blocks)) → (i : ℕ) (d : Block)
    → i < length blocks → IsRising (pairs_of (get_or blocks i d).rows)
block_rises [] rising i d within = absurd (omega arith)
block_rises (block ∷ blocks) rising zero d within =
    rising_front (pairs_of block.rows) (rows_of (lists_of blocks)) rising
block_rises (block ∷ blocks) rising (suc i) d within =
    block_rises blocks (rising_back (pairs_of block.rows) (rows_of (lists_of blocks)) rising) i d
    (omega arith)

pub block_at : (blocks : List Block) → AllByRecursion IsBlock blocks → (i : ℕ) (d : Block)
    → i < length blocks → IsBlock (get_or blocks i d)
block_at [] each i d within = absurd (omega arith)
block_at (block ∷ blocks) each zero d within = each.0
block_at (block ∷ blocks) each (suc i) d within = block_at blocks each.1 i d (omega arith)

first_there : (P : List ℕ → Type 0) (rows : List Row) (later : Rows) → 1 ≤ length rows
    → AllByRecursion P (keys_of (pairs_of rows ++ later)) → P (first_key rows)
first_there P [] later some all = absurd (omega arith)
first_there P (row ∷ rows) later some all = all.0

pub first_in : (P : List ℕ → Type 0) (blocks : List Block) → AllByRecursion IsBlock blocks
    → (i : ℕ) (d : Block) → i < length blocks
    → AllByRecursion P (keys_of (rows_of (lists_of blocks)))
    → P (first_key (get_or blocks i d).rows)
first_in P [] each i d within all = absurd (omega arith)
first_in P (block ∷ blocks) each zero d within all =
    first_there P block.rows (rows_of (lists_of blocks)) each.0.sized.some all
first_in P (block ∷ blocks) each (suc i) d within all =
    first_in P blocks each.1 i d (omega arith)
    (all_back P (pairs_of block.rows) (rows_of (lists_of blocks)) all)

-- rows before a block are before its first key
pub front_less : (xs : Rows) (blocks : List Block) → IsRising (xs ++ rows_of (lists_of blocks))
    → AllByRecursion IsBlock blocks → (i : ℕ) (d : Block) → i < length blocks
    → AllByRecursion
    (λ k. slice_cmp nat_cmp k (first_key (get_or blocks i d).rows) ≡ Less) (keys_of xs)
unfolding IsStrictlySortedBy
front_less [] blocks rising each i d within = tt
front_less (x ∷ xs) blocks rising each i d within = (
  first_in (λ k. slice_cmp nat_cmp x.0 k ≡ Less) blocks each i d within
      (all_back (λ k. slice_cmp nat_cmp x.0 k ≡ Less) xs (rows_of (lists_of blocks)) rising.0),
  front_less xs blocks rising.1 each i d within,
)

first_of_front : (P : List ℕ → Type 0) (rows : List Row) → 1 ≤ length rows
    → AllByRecursion P (keys_of (pairs_of rows)) → P (first_key rows)
first_of_front P [] some all = absurd (omega arith)
first_of_front P (row ∷ rows) some all = all.0

firsts_rise : (blocks : List Block) → AllByRecursion IsBlock blocks
    → IsRising (rows_of (lists_of blocks)) → (i j : ℕ) (d : Block) → i < j → j < length blocks
    → slice_cmp nat_cmp (first_key (get_or blocks i d).rows) (first_key (get_or blocks j d).rows)
    ≡ Less
firsts_rise [] each rising i j d less within = absurd (omega arith)
firsts_rise (block ∷ blocks) each rising i zero d less within = absurd (omega arith)
firsts_rise (block ∷ blocks) each rising zero (suc j) d less within =
    first_of_front (λ k. slice_cmp nat_cmp k (first_key (get_or blocks j d).rows) ≡ Less) block.rows
    each.0.sized.some
    (front_less (pairs_of block.rows) blocks rising each.1 j d (omega arith))
firsts_rise (block ∷ blocks) each rising (suc i) (suc j) d less within =
    firsts_rise blocks each.1 (rising_back (pairs_of block.rows) (rows_of (lists_of blocks)) rising)
    i j d (omega arith) (omega arith)

abbrev pub is_begun : List ℕ → Block → Bool
is_begun key block = is_le (slice_cmp nat_cmp (first_key block.rows) key)

-- a block before one that has begun has begun, and one after one that has not, has not
pub begun_before : (key : List ℕ) (blocks : List Block) → AllByRecursion IsBlock blocks
    → IsRising (rows_of (lists_of blocks)) → (i j : ℕ) (d : Block) → i ≤ j → j < length blocks
    → is_begun key (get_or blocks j d) ≡ true → is_begun key (get_or blocks i d) ≡ true
begun_before key blocks each rising i j d up within begun = elim (cases_lt i j) [
  | inl less ↦ le_trans (first_key (get_or blocks i d).rows) (first_key (get_or blocks j d).rows)
      key (ap is_le (firsts_rise blocks each rising i j d less within)) begun
  | inr over ↦ let same : i ≡ j = omega arith in rw same begun
]

pub not_begun_after : (key : List ℕ) (blocks : List Block) → AllByRecursion IsBlock blocks
    → IsRising (rows_of (lists_of blocks)) → (i j : ℕ) (d : Block) → i ≤ j → j < length blocks
    → is_begun key (get_or blocks i d) ≡ false → is_begun key (get_or blocks j d) ≡ false
not_begun_after key blocks each rising i j d up within away =
    elim (is_begun key (get_or blocks j d)) as
    (λ t. is_begun key (get_or blocks j d) ≡ t → t ≡ false) [
      | true ↦ λ e. absurd
          (true≢false (sym (begun_before key blocks each rising i j d up within e) ∙ away))
      | false ↦ λ _. refl
    ] refl

-- ---- rows below a key, in two parts
below_front : (key : List ℕ) (xs ys : Rows) → rows_below key ys ≡ []
    → rows_below key (xs ++ ys) ≡ rows_below key xs
below_front key [] ys none = none
below_front key (x ∷ xs) ys none =
    ap (λ later. cond (is_le (slice_cmp nat_cmp key x.0)) [] (x ∷ later))
    (below_front key xs ys none)

after_front : (key : List ℕ) (xs ys : Rows) → rows_after key ys ≡ ys
    → rows_after key (xs ++ ys) ≡ rows_after key xs ++ ys
after_front key [] ys all = all
after_front key (x ∷ xs) ys all =
    elim (is_le (slice_cmp nat_cmp key x.0)) as
    (λ b. cond b (x ∷ (xs ++ ys)) (rows_after key (xs ++ ys))
    ≡ cond b (x ∷ xs) (rows_after key xs) ++ ys) [
      | true ↦ refl
      | false ↦ after_front key xs ys all
    ]

pub below_back : (key : List ℕ) (xs ys : Rows)
    → AllByRecursion (λ k. is_le (slice_cmp nat_cmp key k) ≡ false) (keys_of xs)
    → rows_below key (xs ++ ys) ≡ xs ++ rows_below key ys
below_back key [] ys away = refl
below_back key (x ∷ xs) ys away =
    ap (λ b. cond b [] (x ∷ rows_below key (xs ++ ys))) away.0
    ∙ ap (λ later. x ∷ later) (below_back key xs ys away.1)

pub after_back : (key : List ℕ) (xs ys : Rows)
    → AllByRecursion (λ k. is_le (slice_cmp nat_cmp key k) ≡ false) (keys_of xs)
    → rows_after key (xs ++ ys) ≡ rows_after key ys
after_back key [] ys away = refl
after_back key (x ∷ xs) ys away =
    ap (λ b. cond b (x ∷ (xs ++ ys)) (rows_after key (xs ++ ys))) away.0
    ∙ after_back key xs ys away.1

each_away : (key other : List ℕ) (xs : Rows) → is_le (slice_cmp nat_cmp other key) ≡ true
    → AllByRecursion (λ k. slice_cmp nat_cmp k other ≡ Less) (keys_of xs)
    → AllByRecursion (λ k. is_le (slice_cmp nat_cmp key k) ≡ false) (keys_of xs)
each_away key other [] up less = tt
each_away key other (x ∷ xs) up less =
    (not_le_below key x.0 other less.0 up, each_away key other xs up less.1)

-- ---- the place of a key
pub record IsPlaceOf (key : List ℕ) (blocks : List Block) (n row : ℕ) : Type 0 where
  pub place : IsPlace n row blocks
  pub before : rows_until n row blocks ≡ rows_below key (rows_of (lists_of blocks))
  pub from : rows_at n row blocks ≡ rows_after key (rows_of (lists_of blocks))

first_rows : (key : List ℕ) (rows : List Row) (later : Rows) → 1 ≤ length rows
    → is_le (slice_cmp nat_cmp (first_key rows) key) ≡ false
    → (rows_below key (pairs_of rows ++ later) ≡ [])
    × (rows_after key (pairs_of rows ++ later) ≡ pairs_of rows ++ later)
first_rows key [] later some away = absurd (omega arith)
first_rows key (row ∷ rows) later some away =
    let reached = not_reached row.key key away in (
      ap (λ b. cond b [] (pair_of row ∷ rows_below key (pairs_of rows ++ later))) reached,
      ap (λ b. cond b (pair_of row ∷ (pairs_of rows ++ later))
          (rows_after key (pairs_of rows ++ later))) reached,
    )

none_begun : (key : List ℕ) (blocks : List Block) → AllByRecursion IsBlock blocks
    → AllWithin (λ block. is_begun key block ≡ false) blocks 0 (length blocks)
    → (rows_below key (rows_of (lists_of blocks)) ≡ [])
    × (rows_after key (rows_of (lists_of blocks)) ≡ rows_of (lists_of blocks))
none_begun key [] each others = (refl, refl)
none_begun key (block ∷ blocks) each others =
    first_rows key block.rows (rows_of (lists_of blocks)) each.0.sized.some
    (others 0 block (omega arith) (omega arith))

pub first_place : (key : List ℕ) (blocks : List Block) → AllByRecursion IsBlock blocks
    → AllWithin (λ block. is_begun key block ≡ false) blocks 0 (length blocks)
    → IsPlaceOf key blocks 0 0
first_place key [] each others = record { place = (refl, refl); before = refl; from = refl }
first_place key (block ∷ blocks) each others =
    let none = none_begun key (block ∷ blocks) each others in
    record { place = omega arith; before = sym none.0; from = sym none.1 }

place_later : (n row : ℕ) (block : Block) (blocks : List Block) → n < length blocks
    → IsPlace n row blocks → IsPlace (suc n) row (block ∷ blocks)
place_later n row block [] within place = absurd (omega arith)
place_later n row block (other ∷ blocks) within place = place

pub later_place : (key : List ℕ) (blocks : List Block) → AllByRecursion IsBlock blocks
    → IsRising (rows_of (lists_of blocks)) → (n row : ℕ) (d : Block) → n < length blocks
    → is_begun key (get_or blocks n d) ≡ true
    → AllWithin (λ block. is_begun key block ≡ false) blocks (suc n) (length blocks)
    → row ≤ length (get_or blocks n d).rows → Parts key (get_or blocks n d).rows row
    → IsPlaceOf key blocks n row
later_place key [] each rising n row d within begun others bound parts = absurd (omega arith)
later_place key (block ∷ blocks) each rising zero row d within begun others bound parts =
    let none = none_begun key blocks each.1
    (λ k e low up. others (suc k) e (omega arith) (omega arith)) in
    record {
      place = bound;
      before = parts.before
          ∙ sym (below_front key (pairs_of block.rows) (rows_of (lists_of blocks)) none.0);
      from = ap (λ rows. rows ++ rows_of (lists_of blocks)) parts.from
          ∙ sym (after_front key (pairs_of block.rows) (rows_of (lists_of blocks)) none.1);
    }
later_place key (block ∷ blocks) each rising (suc n) row d within begun others bound parts =
    let inner = later_place key blocks each.1
    (rising_back (pairs_of block.rows) (rows_of (lists_of blocks)) rising) n row d (omega arith)
    begun (λ k e low up. others (suc k) e (omega arith) (omega arith)) bound parts in
    let away = each_away key (first_key (get_or blocks n d).rows) (pairs_of block.rows) begun
    (front_less (pairs_of block.rows) blocks rising each.1 n d (omega arith)) in
    record {
      place = place_later n row block blocks (omega arith) inner.place;
      before = ap (λ rows. pairs_of block.rows ++ rows) inner.before
          ∙ sym (below_back key (pairs_of block.rows) (rows_of (lists_of blocks)) away);
      from = inner.from
          ∙ sym (after_back key (pairs_of block.rows) (rows_of (lists_of blocks)) away);
    }

pub rising_drop : (rows : List Row) (n : ℕ) → IsRising (pairs_of rows)
    → IsRising (pairs_of (drop n rows))
unfolding IsStrictlySortedBy
rising_drop [] zero rising = tt
rising_drop [] (suc n) rising = tt
rising_drop (row ∷ rows) zero rising = rising
rising_drop (row ∷ rows) (suc n) rising = rising_drop rows n rising.1

-- ---- blocks before the place of a key
after_part : (key : List ℕ) (xs ys : Rows) → length (rows_after key (xs ++ ys)) ≤ length ys
    → rows_after key (xs ++ ys) ≡ rows_after key ys
after_part key [] ys few = refl
after_part key (x ∷ xs) ys few =
    elim (is_le (slice_cmp nat_cmp key x.0)) as
    (λ b. length (cond b (x ∷ (xs ++ ys)) (rows_after key (xs ++ ys))) ≤ length ys
    → cond b (x ∷ (xs ++ ys)) (rows_after key (xs ++ ys)) ≡ rows_after key ys) [
      | true ↦ λ few. absurd (omega (arith, few, length-append xs ys))
      | false ↦ after_part key xs ys
    ] few

at_few : (n row : ℕ) (blocks : List Block)
    → length (rows_at n row blocks) ≤ length (rows_of (lists_of blocks))
at_few n row [] = omega arith
at_few zero row (block ∷ blocks) =
    let rest = rows_of (lists_of blocks) in
    omega (
      arith,
      length-append (pairs_of (drop row block.rows)) rest,
      length-append (pairs_of block.rows) rest,
      length-map (drop row block.rows) pair_of,
      length-map block.rows pair_of,
      length-drop row block.rows,
    )
at_few (suc n) row (block ∷ blocks) =
    omega (
      arith,
      at_few n row blocks,
      length-append (pairs_of block.rows) (rows_of (lists_of blocks)),
    )

begins_by : (from key : List ℕ) (rows : List Row) (later : Rows) → 1 ≤ length rows
    → is_le (slice_cmp nat_cmp from key) ≡ true
    → length (rows_after from (pairs_of rows ++ later)) ≤ length later
    → is_le (slice_cmp nat_cmp (first_key rows) key) ≡ true
begins_by from key [] later some up few = absurd (omega arith)
begins_by from key (row ∷ rows) later some up few =
    elim (is_le (slice_cmp nat_cmp from row.key)) as
    (λ b. is_le (slice_cmp nat_cmp from row.key) ≡ b
    → length (cond b (pair_of row ∷ (pairs_of rows ++ later))
    (rows_after from (pairs_of rows ++ later))) ≤ length later
    → is_le (slice_cmp nat_cmp row.key key) ≡ true) [
      | true ↦ λ _ few. absurd (omega (arith, few, length-append (pairs_of rows) later))
      | false ↦ λ away _. le_trans row.key from key (not_reached from row.key away) up
    ] refl few

-- those before the place of a key begin by each key that is not below it
pub begun_until : (from key : List ℕ) (blocks : List Block) → AllByRecursion IsBlock blocks
    → (n row : ℕ) → rows_at n row blocks ≡ rows_after from (rows_of (lists_of blocks))
    → is_le (slice_cmp nat_cmp from key) ≡ true → (i : ℕ) (d : Block) → i < n → i < length blocks
    → is_begun key (get_or blocks i d) ≡ true
begun_until from key [] each n row at up i d less within = absurd (omega (arith, within))
begun_until from key (block ∷ blocks) each zero row at up i d less within =
    absurd (omega (arith, less))
begun_until from key (block ∷ blocks) each (suc n) row at up zero d less within =
    let rest = rows_of (lists_of blocks) in
    begins_by from key block.rows rest each.0.sized.some up
    (omega (arith, ap length at, at_few n row blocks))
begun_until from key (block ∷ blocks) each (suc n) row at up (suc i) d less within =
    let rest = rows_of (lists_of blocks) in
    let few : length (rows_after from (pairs_of block.rows ++ rest)) ≤ length rest =
    omega (arith, ap length at, at_few n row blocks) in
    begun_until from key blocks each.1 n row (at ∙ after_part from (pairs_of block.rows) rest few)
    up i d (omega (arith, less)) (omega (arith, within))

pub block_within : (n row : ℕ) (blocks : List Block) → IsPlace n row blocks → n ≤ length blocks
block_within n row [] place = omega (arith, place.0)
block_within zero row (block ∷ blocks) place = omega arith
block_within (suc n) row (block ∷ []) place = absurd place
block_within (suc n) row (block ∷ other ∷ blocks) place =
    omega (arith, block_within n row (other ∷ blocks) place)
