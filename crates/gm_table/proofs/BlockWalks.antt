-- Rows of a block that are handed out, one more.
use Rattle.std.proofs.Common.{◌≡◌, List, [], ◌∷◌, ◌++◌, append_assoc, ℕ, zero, suc, ◌+◌, ◌-◌, ◌<◌}
use Rattle.std.proofs.Common.{◌≤◌, true, false, cond, length, take, drop, get_or, refl, sym, ap}
use Rattle.std.proofs.Common.{subst, ◌∙◌, arith, length-append, length-drop}
use Rattle.std.proofs.lemmas.List.{take_more, drop-drop, length-map, append-nil}
use Rattle.std.specs.Prelude.{Result, ⊤}
use Rattle.std.specs.Ordering.{nat_cmp, is_le}
use Rattle.std.specs.Cmp.Lexicographic.{slice_cmp}
use Rattle.std.specs.List.{AllByRecursion}
use Rattle.std.specs.Map.{keys_of}
use Rattle.gm_base.specs.Counter.{capped_sum}
use Rattle.gm_base.specs.declared.NoMemory.{NoMemory}
use Rattle.gm_table.specs.declared.row.Row.{Row}
use Rattle.gm_table.specs.declared.blocks.block.Block.{Block}
use Rattle.gm_table.specs.Sorted.{Rows, IsRising, between}
use Rattle.gm_table.specs.Cursor.{rows_from, rows_below, rows_after}
use Rattle.gm_table.specs.Visit.{Handed}
use Rattle.gm_table.specs.Blocks.{pair_of, pairs_of, rows_of, lists_of, IsPlace, rows_at}
use Rattle.gm_table.proofs.Places.{below-is, between-narrower}
use Rattle.gm_table.proofs.Spans.{Handed-both, capped_more}
use Rattle.gm_table.proofs.Walks.{Walk}
use Rattle.gm_table.proofs.BlockPlaces.{below_back, after_back}

-- a row between those before it and those after it
pub cut_at : (rows : List Row) (i : ℕ) (row : Row) → i < length rows → row ≡ get_or rows i row
    → pairs_of rows ≡ pairs_of (take i rows) ++ pair_of row ∷ pairs_of (drop (suc i) rows)
cut_at [] i row within is = absurd (omega arith)
cut_at (first ∷ rows) zero row within is = ap (λ (it : Row). pair_of it ∷ pairs_of rows) (sym is)
cut_at (first ∷ rows) (suc i) row within is =
    ap (λ later. pair_of first ∷ later) (cut_at rows i row (omega arith) is)

pub one_more : (rows : List Row) (i : ℕ) (row : Row) → i < length rows → row ≡ get_or rows i row
    → take (i + 1) rows ≡ take i rows ++ row ∷ []
one_more rows i row within is =
    take_more rows i row within ∙ ap (λ (it : Row). take i rows ++ it ∷ []) (sym is)

-- ---- places
pub place_bound : (blocks : List Block) (n row : ℕ) (d : Block) → IsPlace n row blocks
    → n < length blocks → row ≤ length (get_or blocks n d).rows
place_bound [] n row d place within = absurd (omega arith)
place_bound (block ∷ blocks) zero row d place within = place
place_bound (block ∷ []) (suc n) row d place within = absurd place
place_bound (block ∷ other ∷ blocks) (suc n) row d place within =
    place_bound (other ∷ blocks) n row d place (omega arith)

pub place_at : (blocks : List Block) (n row : ℕ) (d : Block) → n < length blocks
    → row ≤ length (get_or blocks n d).rows → IsPlace n row blocks
place_at [] n row d within bound = absurd (omega arith)
place_at (block ∷ blocks) zero row d within bound = bound
place_at (block ∷ []) (suc n) row d within bound = absurd (omega arith)
place_at (block ∷ other ∷ blocks) (suc n) row d within bound =
    place_at (other ∷ blocks) n row d (omega arith) bound

pub rows_at_get : (blocks : List Block) (n row : ℕ) (d : Block) → n < length blocks
    → rows_at n row blocks
    ≡ pairs_of (drop row (get_or blocks n d).rows) ++ rows_of (lists_of (drop (suc n) blocks))
rows_at_get [] n row d within = absurd (omega arith)
rows_at_get (block ∷ blocks) zero row d within = refl
rows_at_get (block ∷ blocks) (suc n) row d within = rows_at_get blocks n row d (omega arith)

pub rows_at_first : (blocks : List Block) (n : ℕ) → n < length blocks
    → rows_at n 0 blocks ≡ rows_of (lists_of (drop n blocks))
rows_at_first [] n within = absurd (omega arith)
rows_at_first (block ∷ blocks) zero within = refl
rows_at_first (block ∷ blocks) (suc n) within = rows_at_first blocks n (omega arith)

pub none_behind : (blocks : List Block) (n : ℕ) → suc n ≡ length blocks
    → rows_of (lists_of (drop (suc n) blocks)) ≡ []
none_behind [] n last = refl
none_behind (block ∷ []) zero last = refl
none_behind (block ∷ other ∷ blocks) zero last = absurd (omega (arith, last))
none_behind (block ∷ blocks) (suc n) last = none_behind blocks n (omega (arith, last))

-- ---- rows before a key, and others behind them
pub no_more : (n : ℕ) → 0 < n → n ≡ 0 → ⊥
no_more n some none = omega (arith, some, none)

below_stops : (key : List ℕ) (xs ys : Rows) → 0 < length (rows_after key xs)
    → rows_below key (xs ++ ys) ≡ rows_below key xs
below_stops key [] ys some = absurd (no_more 0 some refl)
below_stops key (x ∷ xs) ys some =
    elim (is_le (slice_cmp nat_cmp key x.0)) as
    (λ b. 0 < length (cond b (x ∷ xs) (rows_after key xs))
    → cond b [] (x ∷ rows_below key (xs ++ ys)) ≡ cond b [] (x ∷ rows_below key xs)) [
      | true ↦ λ _. refl
      | false ↦ λ more. ap (λ later. x ∷ later) (below_stops key xs ys more)
    ] some

after_stops : (key : List ℕ) (xs ys : Rows) → 0 < length (rows_after key xs)
    → rows_after key (xs ++ ys) ≡ rows_after key xs ++ ys
after_stops key [] ys some = absurd (no_more 0 some refl)
after_stops key (x ∷ xs) ys some =
    elim (is_le (slice_cmp nat_cmp key x.0)) as
    (λ b. 0 < length (cond b (x ∷ xs) (rows_after key xs))
    → cond b (x ∷ (xs ++ ys)) (rows_after key (xs ++ ys))
    ≡ cond b (x ∷ xs) (rows_after key xs) ++ ys) [
      | true ↦ λ _. refl
      | false ↦ λ more. after_stops key xs ys more
    ] some

all_below : (key : List ℕ) (xs : Rows) → length (rows_after key xs) ≡ 0 → xs ≡ rows_below key xs
all_below key [] none = refl
all_below key (x ∷ xs) none =
    elim (is_le (slice_cmp nat_cmp key x.0)) as
    (λ b. length (cond b (x ∷ xs) (rows_after key xs)) ≡ 0
    → x ∷ xs ≡ cond b [] (x ∷ rows_below key xs)) [
      | true ↦ λ no. absurd (no_more (length (x ∷ xs)) (omega arith) no)
      | false ↦ λ no. ap (λ later. x ∷ later) (all_below key xs no)
    ] none

pub below_more : (key : List ℕ) (xs ys : Rows)
    → (later : Rows) × (rows_below key (xs ++ ys) ≡ rows_below key xs ++ later)
below_more key [] ys = (rows_below key ys, refl)
below_more key (x ∷ xs) ys =
    let rest = below_more key xs ys in
    elim (is_le (slice_cmp nat_cmp key x.0)) as
    (λ b. (later : Rows)
    × (cond b [] (x ∷ rows_below key (xs ++ ys))
    ≡ cond b [] (x ∷ rows_below key xs) ++ later)) [
      | true ↦ ([], refl)
      | false ↦ (rest.0, ap (λ later. x ∷ later) rest.1)
    ]

pub below_away : (key : List ℕ) (xs : Rows)
    → AllByRecursion (λ k. is_le (slice_cmp nat_cmp key k) ≡ false) (keys_of (rows_below key xs))
below_away key [] = tt
below_away key (x ∷ xs) =
    elim (is_le (slice_cmp nat_cmp key x.0)) as
    (λ b. is_le (slice_cmp nat_cmp key x.0) ≡ b
    → AllByRecursion (λ k. is_le (slice_cmp nat_cmp key k) ≡ false)
    (keys_of (cond b [] (x ∷ rows_below key xs)))) [
      | true ↦ λ _. tt
      | false ↦ λ away. (away, below_away key xs)
    ] refl

-- ---- one block of a walk
-- of the rows from a place on, those of its block before the key come first
pub record Block_rows (key : List ℕ) (blocks : List Block) (n row : ℕ)
    (rows : List Row) : Type 0 where
  pub later : Rows
  pub whole : rows_below key (rows_at n row blocks)
      ≡ rows_below key (pairs_of (drop row rows)) ++ later

pub block_rows : (key : List ℕ) (blocks : List Block) (n row : ℕ) (d : Block) → n < length blocks
    → Block_rows key blocks n row (get_or blocks n d).rows
block_rows key blocks n row d within =
    let more = below_more key (pairs_of (drop row (get_or blocks n d).rows))
    (rows_of (lists_of (drop (suc n) blocks))) in
    record {
      later = more.0;
      whole = ap (rows_below key) (rows_at_get blocks n row d within) ∙ more.1;
    }

-- the key is in the block, or no block follows
pub record Ends (key : List ℕ) (blocks : List Block) (n row end : ℕ)
    (rows : List Row) : Type 0 where
  pub place : IsPlace n end blocks
  pub below : rows_below key (rows_at n row blocks) ≡ rows_below key (pairs_of (drop row rows))
  pub left : rows_at n end blocks ≡ rows_after key (rows_at n row blocks)

after_drop : (key : List ℕ) (rows : List Row) (row count end : ℕ) → end ≡ row + count
    → pairs_of (drop count (drop row rows)) ≡ rows_after key (pairs_of (drop row rows))
    → pairs_of (drop end rows) ≡ rows_after key (pairs_of (drop row rows))
after_drop key rows row count end is from =
    ap (λ (k : ℕ). pairs_of (drop k rows)) is ∙ sym (ap pairs_of (drop-drop count row rows)) ∙ from

length_after : (key : List ℕ) (rows : List Row) (row end : ℕ)
    → pairs_of (drop end rows) ≡ rows_after key (pairs_of (drop row rows))
    → length (rows_after key (pairs_of (drop row rows))) ≡ length rows - end
length_after key rows row end from =
    sym (ap length from) ∙ length-map (drop end rows) pair_of ∙ length-drop end rows

-- where one row is not before the key, not all are
pub some_after : (key : List ℕ) (rows : List Row) (i : ℕ) (d : Row) → i < length rows
    → is_le (slice_cmp nat_cmp key (get_or rows i d).key) ≡ true
    → 0 < length (rows_after key (pairs_of rows))
some_after key [] i d within up = absurd (omega arith)
some_after key (row ∷ rows) zero d within up =
    subst (λ b. 0 < length (cond b (pair_of row ∷ pairs_of rows) (rows_after key (pairs_of rows))))
    (sym up) (omega arith)
some_after key (row ∷ rows) (suc i) d within up =
    elim (is_le (slice_cmp nat_cmp key row.key)) as
    (λ b. 0 < length (cond b (pair_of row ∷ pairs_of rows) (rows_after key (pairs_of rows)))) [
      | true ↦ omega arith
      | false ↦ some_after key rows i d (omega arith) up
    ]

pub ends_within : (key : List ℕ) (blocks : List Block) (n row count end : ℕ) (d : Block)
    → n < length blocks → end ≡ row + count → end < length (get_or blocks n d).rows
    → pairs_of (drop count (drop row (get_or blocks n d).rows))
    ≡ rows_after key (pairs_of (drop row (get_or blocks n d).rows))
    → Ends key blocks n row end (get_or blocks n d).rows
ends_within key blocks n row count end d within is few from =
    let rows = (get_or blocks n d).rows in
    let rest = rows_of (lists_of (drop (suc n) blocks)) in
    let here = after_drop key rows row count end is from in
    let some : 0 < length (rows_after key (pairs_of (drop row rows))) =
    omega (arith, length_after key rows row end here, few) in
    record {
      place = place_at blocks n end d within (omega (arith, few));
      below = ap (rows_below key) (rows_at_get blocks n row d within)
          ∙ below_stops key (pairs_of (drop row rows)) rest some;
      left = rows_at_get blocks n end d within ∙ ap (λ xs. xs ++ rest) here
          ∙ sym (after_stops key (pairs_of (drop row rows)) rest some)
          ∙ sym (ap (rows_after key) (rows_at_get blocks n row d within));
    }

pub ends_last : (key : List ℕ) (blocks : List Block) (n row count end : ℕ) (d : Block)
    → n < length blocks → end ≡ row + count → end ≤ length (get_or blocks n d).rows
    → suc n ≡ length blocks
    → pairs_of (drop count (drop row (get_or blocks n d).rows))
    ≡ rows_after key (pairs_of (drop row (get_or blocks n d).rows))
    → Ends key blocks n row end (get_or blocks n d).rows
ends_last key blocks n row count end d within is few last from =
    let rows = (get_or blocks n d).rows in
    let none = none_behind blocks n last in
    let here = after_drop key rows row count end is from in
    let alone = λ (k : ℕ). rows_at_get blocks n k d within
    ∙ ap (λ ys. pairs_of (drop k rows) ++ ys) none ∙ append-nil (pairs_of (drop k rows)) in
    record {
      place = place_at blocks n end d within few;
      below = ap (rows_below key) (alone row);
      left = alone end ∙ here ∙ sym (ap (rows_after key) (alone row));
    }

-- the key is in no row of the block, and the next block follows
pub next_block : (key : List ℕ) (blocks : List Block) (n m row count : ℕ) (d : Block) → m ≡ suc n
    → m < length blocks → length (drop row (get_or blocks n d).rows) ≤ count
    → pairs_of (drop count (drop row (get_or blocks n d).rows))
    ≡ rows_after key (pairs_of (drop row (get_or blocks n d).rows))
    → rows_at n row blocks
    ≡ rows_below key (pairs_of (drop row (get_or blocks n d).rows)) ++ rows_at m 0 blocks
next_block key blocks n m row count d next within all from =
    let rows = (get_or blocks n d).rows in
    let none : length (rows_after key (pairs_of (drop row rows))) ≡ 0 =
    omega (
      arith,
      ap length from,
      length-map (drop count (drop row rows)) pair_of,
      length-drop count (drop row rows),
      all,
    ) in
    rows_at_get blocks n row d (omega (arith, next, within))
    ∙ ap (λ xs. xs ++ rows_of (lists_of (drop (suc n) blocks)))
    (all_below key (pairs_of (drop row rows)) none)
    ∙ ap (λ ys. rows_below key (pairs_of (drop row rows)) ++ ys)
    (ap (λ (k : ℕ). rows_of (lists_of (drop k blocks))) (sym next)
    ∙ sym (rows_at_first blocks m within))

-- a walk goes on over rows before the key
pub Walk-rows : {V : Type 0} (takes : V → List ℕ → List ℕ → Result ⊤ NoMemory → V → Type 0)
    (before mid later : V) (key : List ℕ) (all left : Rows) (some rest : Rows) (number now more : ℕ)
    → left ≡ rows_below key some ++ rest → Handed takes mid (rows_below key some) later
    → more ≡ capped_sum now (length (rows_below key some))
    → Walk takes before mid key all left number now
    → Walk takes before later key all rest number more
Walk-rows takes before mid later key all left some rest number now more cut handed raised walk =
    let here = rows_below key some in
    let away = below_away key some in
    record {
      done = walk.done ++ here;
      below = walk.below ∙ ap (λ rows. walk.done ++ rows_below key rows) cut
          ∙ ap (λ rows. walk.done ++ rows) (below_back key here rest away)
          ∙ sym (append_assoc walk.done here (rows_below key rest));
      after = walk.after ∙ ap (rows_after key) cut ∙ after_back key here rest away;
      handed = Handed-both takes before mid later walk.done here walk.handed handed;
      tally = capped_more _ _ _ (length walk.done) (length here) _ walk.tally raised
          (length-append walk.done here);
    }

-- and ends
pub record Walked {V : Type 0} (takes : V → List ℕ → List ℕ → Result ⊤ NoMemory → V → Type 0)
    (before later : V) (key : List ℕ) (all : Rows) (number more : ℕ) : Type 0 where
  pub handed : Handed takes before (rows_below key all) later
  pub tally : more ≡ capped_sum number (length (rows_below key all))

pub walked : {V : Type 0} (takes : V → List ℕ → List ℕ → Result ⊤ NoMemory → V → Type 0)
    (before mid later : V) (key : List ℕ) (all left some : Rows) (number now more : ℕ)
    → rows_below key left ≡ rows_below key some → Handed takes mid (rows_below key some) later
    → more ≡ capped_sum now (length (rows_below key some))
    → Walk takes before mid key all left number now → Walked takes before later key all number more
walked takes before mid later key all left some number now more last handed raised walk =
    let here = rows_below key some in
    let whole : rows_below key all ≡ walk.done ++ here =
    walk.below ∙ ap (λ rows. walk.done ++ rows) last in
    record {
      handed = subst (λ rows. Handed takes before rows later) (sym whole)
          (Handed-both takes before mid later walk.done here walk.handed handed);
      tally = capped_more _ _ _ (length walk.done) (length here) _ walk.tally raised
          (ap length whole ∙ length-append walk.done here);
    }

-- ---- a place behind all blocks
pub none_left : (blocks : List Block) (n row : ℕ) → IsPlace n row blocks → length blocks ≤ n
    → rows_at n row blocks ≡ []
none_left [] n row place past = refl
none_left (block ∷ blocks) zero row place past = absurd (omega (arith, past))
none_left (block ∷ []) (suc n) row place past = absurd place
none_left (block ∷ other ∷ blocks) (suc n) row place past =
    none_left (other ∷ blocks) n row place (omega (arith, past))

pub walked_out : {V : Type 0} (takes : V → List ℕ → List ℕ → Result ⊤ NoMemory → V → Type 0)
    (before mid : V) (key : List ℕ) (all left : Rows) (number now : ℕ)
    → left ≡ [] → Walk takes before mid key all left number now
    → Walked takes before mid key all number now
walked_out takes before mid key all left number now none walk =
    let whole : rows_below key all ≡ walk.done =
    walk.below ∙ ap (λ rows. walk.done ++ rows_below key rows) none ∙ append-nil walk.done in
    record {
      handed = subst (λ rows. Handed takes before rows mid) (sym whole) walk.handed;
      tally = walk.tally ∙ ap (λ rows. capped_sum number (length rows)) (sym whole);
    }

-- a walk ends in a block, whose rows from the place on were tried
pub record Exit {V : Type 0} (takes : V → List ℕ → List ℕ → Result ⊤ NoMemory → V → Type 0)
    (before later : V) (key : List ℕ) (blocks : List Block) (all : Rows)
    (n end number more : ℕ) : Type 0 where
  pub place : IsPlace n end blocks
  pub left : rows_at n end blocks ≡ rows_after key all
  pub walk : Walked takes before later key all number more

pub exit : {V : Type 0} (takes : V → List ℕ → List ℕ → Result ⊤ NoMemory → V → Type 0)
    (before mid later : V) (key : List ℕ) (blocks : List Block) (all : Rows) (n row end : ℕ)
    (rows rest : List Row) (number now more : ℕ)
    → rest ≡ drop row rows → Ends key blocks n row end rows
    → Handed takes mid (rows_below key (pairs_of rest)) later
    → more ≡ capped_sum now (length (rows_below key (pairs_of rest)))
    → Walk takes before mid key all (rows_at n row blocks) number now
    → Exit takes before later key blocks all n end number more
exit takes before mid later key blocks all n row end rows rest number now more is ends handed raised
    walk = record {
      place = ends.place;
      left = ends.left ∙ sym walk.after;
      walk = walked takes before mid later key all (rows_at n row blocks) (pairs_of (drop row rows))
          number now more ends.below
          (subst (λ xs. Handed takes mid (rows_below key (pairs_of xs)) later) is handed)
          (subst (λ xs. more ≡ capped_sum now (length (rows_below key (pairs_of xs)))) is raised)
          walk;
    }

-- ---- the first row from a place on
first_row : (rows : List Row) (row : ℕ) (d : Row) (later : Rows) → row < length rows
    → d ≡ get_or rows row d
    → pairs_of (drop row rows) ++ later ≡ pair_of d ∷ (pairs_of (drop (suc row) rows) ++ later)
first_row [] row d later within is = absurd (omega arith)
first_row (r ∷ rows) zero d later within is =
    ap (λ (it : Row). pair_of it ∷ (pairs_of rows ++ later)) (sym is)
first_row (r ∷ rows) (suc row) d later within is = first_row rows row d later (omega arith) is

pub row_there : (blocks : List Block) (n row : ℕ) (d : Block) (r : Row) → n < length blocks
    → row < length (get_or blocks n d).rows → r ≡ get_or (get_or blocks n d).rows row r
    → (later : Rows) × (rows_at n row blocks ≡ pair_of r ∷ later)
row_there blocks n row d r within inside is = (
  pairs_of (drop (suc row) (get_or blocks n d).rows) ++ rows_of (lists_of (drop (suc n) blocks)),
  rows_at_get blocks n row d within
      ∙ first_row (get_or blocks n d).rows row r
      (rows_of (lists_of (drop (suc n) blocks))) inside is,
)

no_rows : (rows : List Row) (row : ℕ) → length rows ≤ row → pairs_of (drop row rows) ≡ []
no_rows [] zero past = refl
no_rows [] (suc row) past = refl
no_rows (r ∷ rows) zero past = absurd (omega (arith, past))
no_rows (r ∷ rows) (suc row) past = no_rows rows row (omega (arith, past))

pub row_next : (blocks : List Block) (n m row : ℕ) (d e : Block) (r : Row) → m ≡ suc n
    → m < length blocks → length (get_or blocks n d).rows ≤ row
    → 0 < length (get_or blocks m e).rows → r ≡ get_or (get_or blocks m e).rows 0 r
    → (later : Rows) × (rows_at n row blocks ≡ pair_of r ∷ later)
row_next blocks n m row d e r next within past some is =
    let there = row_there blocks m 0 e r within some is in (
      there.0,
      rows_at_get blocks n row d (omega (arith, next, within))
          ∙ ap (λ xs. xs ++ rows_of (lists_of (drop (suc n) blocks)))
          (no_rows (get_or blocks n d).rows row past)
          ∙ ap (λ (k : ℕ). rows_of (lists_of (drop k blocks))) (sym next)
          ∙ sym (rows_at_first blocks m within) ∙ there.1,
    )

pub no_row : (blocks : List Block) (n row : ℕ) (d : Block) → n < length blocks
    → length blocks ≤ n + 1 → length (get_or blocks n d).rows ≤ row → rows_at n row blocks ≡ []
no_row blocks n row d within last past =
    rows_at_get blocks n row d within
    ∙ ap (λ xs. xs ++ rows_of (lists_of (drop (suc n) blocks)))
    (no_rows (get_or blocks n d).rows row past)
    ∙ none_behind blocks n (omega (arith, within, last))

-- ---- spans, from the place of a key
pub clear_none : (from low high : List ℕ) (all rows : Rows) → IsRising all
    → rows ≡ rows_from from all → is_le (slice_cmp nat_cmp from low) ≡ true
    → rows_below high rows ≡ [] → between low high all ≡ []
clear_none from low high all rows rising at up clear =
    between-narrower from low high all up
    (sym (below-is from high all rising) ∙ sym (ap (rows_below high) at) ∙ clear)

pub between_is : (low high end : List ℕ) (all rows : Rows) → IsRising all → end ≡ high
    → rows ≡ rows_from low all → rows_below end rows ≡ between low high all
between_is low high end all rows rising is at =
    ap (λ key. rows_below key rows) is ∙ ap (rows_below high) at ∙ below-is low high all rising
