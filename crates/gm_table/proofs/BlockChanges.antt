-- Blocks of which one is changed, and the rows round a place.
use Rattle.std.proofs.Common.{◌≡◌, List, [], ◌∷◌, ◌++◌, append_assoc, ℕ, zero, suc, ◌+◌, ◌-◌, ◌<◌}
use Rattle.std.proofs.Common.{◌≤◌, length, take, drop, get_or, refl, sym, ap, subst, ◌∙◌, arith}
use Rattle.std.proofs.Common.{length-append}
use Rattle.std.proofs.Math.ListN.{set}
use Rattle.std.proofs.lemmas.List.{get_or_default, append-nil}
use Rattle.std.specs.List.{insert, remove}
use Rattle.std.specs.Prelude.{Result, Ok, Err, OnErr}
use Rattle.gm_table.specs.declared.row.Row.{Row}
use Rattle.gm_table.specs.declared.blocks.block.Block.{Block}
use Rattle.gm_table.specs.Blocks.{pair_of, pairs_of, rows_of, lists_of, most_rows, IsPlace, IsRowAt}
use Rattle.gm_table.specs.Blocks.{HasRoom, IsCut, rows_at, rows_until}
use Rattle.gm_table.proofs.BlockWalks.{rows_at_get, none_behind}

-- ---- lists in two parts
pub pairs_join : (xs ys : List Row) → pairs_of (xs ++ ys) ≡ pairs_of xs ++ pairs_of ys
pairs_join [] ys = refl
pairs_join (x ∷ xs) ys = ap (λ later. pair_of x ∷ later) (pairs_join xs ys)

pub rows_join : (xs ys : List Block)
    → rows_of (lists_of (xs ++ ys)) ≡ rows_of (lists_of xs) ++ rows_of (lists_of ys)
rows_join [] ys = refl
rows_join (x ∷ xs) ys =
    ap (λ later. pairs_of x.rows ++ later) (rows_join xs ys)
    ∙ sym (append_assoc (pairs_of x.rows) (rows_of (lists_of xs)) (rows_of (lists_of ys)))

pairs_parts : (rows : List Row) (n : ℕ)
    → pairs_of rows ≡ pairs_of (take n rows) ++ pairs_of (drop n rows)
pairs_parts [] zero = refl
pairs_parts [] (suc n) = refl
pairs_parts (row ∷ rows) zero = refl
pairs_parts (row ∷ rows) (suc n) = ap (λ later. pair_of row ∷ later) (pairs_parts rows n)

pub take_all : (rows : List Row) (n : ℕ) → length rows ≤ n → take n rows ≡ rows
take_all [] zero all = refl
take_all [] (suc n) all = refl
take_all (row ∷ rows) zero all = absurd (omega arith)
take_all (row ∷ rows) (suc n) all = ap (λ later. row ∷ later) (take_all rows n (omega arith))

pub drop_all : (rows : List Row) (n : ℕ) → length rows ≤ n → drop n rows ≡ []
drop_all [] zero all = refl
drop_all [] (suc n) all = refl
drop_all (row ∷ rows) zero all = absurd (omega arith)
drop_all (row ∷ rows) (suc n) all = drop_all rows n (omega arith)

-- ---- the rows before a place and from it on are all
pub both_sides : (n row : ℕ) (blocks : List Block)
    → rows_of (lists_of blocks) ≡ rows_until n row blocks ++ rows_at n row blocks
both_sides n row [] = refl
both_sides zero row (block ∷ blocks) =
    ap (λ rows. rows ++ rows_of (lists_of blocks)) (pairs_parts block.rows row)
    ∙ append_assoc (pairs_of (take row block.rows)) (pairs_of (drop row block.rows))
    (rows_of (lists_of blocks))
both_sides (suc n) row (block ∷ blocks) =
    ap (λ later. pairs_of block.rows ++ later) (both_sides n row blocks)
    ∙ sym (append_assoc (pairs_of block.rows) (rows_until n row blocks) (rows_at n row blocks))

pub until_get : (blocks : List Block) (n row : ℕ) (d : Block) → n < length blocks
    → rows_until n row blocks
    ≡ rows_of (lists_of (take n blocks)) ++ pairs_of (take row (get_or blocks n d).rows)
until_get [] n row d within = absurd (omega arith)
until_get (block ∷ blocks) zero row d within = refl
until_get (block ∷ blocks) (suc n) row d within =
    ap (λ later. pairs_of block.rows ++ later) (until_get blocks n row d (omega arith))
    ∙ sym (append_assoc (pairs_of block.rows) (rows_of (lists_of (take n blocks)))
    (pairs_of (take row (get_or blocks n d).rows)))

-- ---- the place at the end of a block
pub place_next : (blocks : List Block) (n : ℕ) → suc n < length blocks → IsPlace (suc n) 0 blocks
place_next [] n within = absurd (omega arith)
place_next (block ∷ []) n within = absurd (omega arith)
place_next (block ∷ other ∷ blocks) zero within = omega arith
place_next (block ∷ other ∷ blocks) (suc n) within = place_next (other ∷ blocks) n (omega arith)

pub until_next : (blocks : List Block) (n row : ℕ) (d : Block) → suc n < length blocks
    → length (get_or blocks n d).rows ≤ row → rows_until (suc n) 0 blocks ≡ rows_until n row blocks
until_next [] n row d within end = absurd (omega arith)
until_next (block ∷ []) n row d within end = absurd (omega arith)
until_next (block ∷ other ∷ blocks) zero row d within end =
    append-nil (pairs_of block.rows) ∙ ap pairs_of (sym (take_all block.rows row end))
until_next (block ∷ other ∷ blocks) (suc n) row d within end =
    ap (λ later. pairs_of block.rows ++ later)
    (until_next (other ∷ blocks) n row d (omega arith) end)

pub at_next : (blocks : List Block) (n row : ℕ) (d : Block) → suc n < length blocks
    → length (get_or blocks n d).rows ≤ row → rows_at (suc n) 0 blocks ≡ rows_at n row blocks
at_next [] n row d within end = absurd (omega arith)
at_next (block ∷ []) n row d within end = absurd (omega arith)
at_next (block ∷ other ∷ blocks) zero row d within end =
    ap (λ (rows : List Row). pairs_of rows ++ (pairs_of other.rows ++ rows_of (lists_of blocks)))
    (sym (drop_all block.rows row end))
at_next (block ∷ other ∷ blocks) (suc n) row d within end =
    at_next (other ∷ blocks) n row d (omega arith) end

pub at_end : (blocks : List Block) (n row : ℕ) (d : Block) → n < length blocks
    → length blocks ≤ suc n → length (get_or blocks n d).rows ≤ row → rows_at n row blocks ≡ []
at_end blocks n row d within last end =
    rows_at_get blocks n row d within
    ∙ ap (λ (rows : List Row). pairs_of rows ++ rows_of (lists_of (drop (suc n) blocks)))
    (drop_all (get_or blocks n d).rows row end) ∙ none_behind blocks n (omega arith)

pub at_none : (blocks : List Block) (n row : ℕ) → length blocks ≤ n → rows_at n row blocks ≡ []
at_none [] n row none = refl
at_none (block ∷ blocks) zero row none = absurd (omega arith)
at_none (block ∷ blocks) (suc n) row none = at_none blocks n row (omega arith)

drop_at : (rows : List Row) (i : ℕ) (e : Row) → i < length rows
    → drop i rows ≡ get_or rows i e ∷ drop (suc i) rows
drop_at [] i e within = absurd (omega arith)
drop_at (row ∷ rows) zero e within = refl
drop_at (row ∷ rows) (suc i) e within = drop_at rows i e (omega arith)

-- a row and those after it
pub at_row : (blocks : List Block) (n row : ℕ) (d : Block) (e : Row) → n < length blocks
    → row < length (get_or blocks n d).rows
    → rows_at n row blocks
    ≡ pair_of (get_or (get_or blocks n d).rows row e) ∷ rows_at n (suc row) blocks
at_row blocks n row d e within inside =
    rows_at_get blocks n row d within
    ∙ ap (λ (rows : List Row). pairs_of rows ++ rows_of (lists_of (drop (suc n) blocks)))
    (drop_at (get_or blocks n d).rows row e inside)
    ∙ ap (λ later. pair_of (get_or (get_or blocks n d).rows row e) ∷ later)
    (sym (rows_at_get blocks n (suc row) d within))

-- a row that stands at a place
pub has_row : (key : List ℕ) (blocks : List Block) (n row : ℕ) (d : Block) (e : Row)
    → n < length blocks → row < length (get_or blocks n d).rows
    → e ≡ get_or (get_or blocks n d).rows row e → key ≡ e.key → IsRowAt key n row blocks
has_row key blocks n row d e within inside is same = record {
  within = within;
  inside = λ f. subst (λ (block : Block). row < length block.rows)
      (get_or_default blocks n d f within) inside;
  has = λ f g. same
      ∙ ap (λ (r : Row). r.key) (is ∙ get_or_default (get_or blocks n d).rows row e g inside)
      ∙ ap (λ (block : Block). (get_or block.rows row g).key) (get_or_default blocks n d f within);
}

-- a row in a block of its own behind all others
pub one_behind : (blocks : List Block) (block : Block) (front : List Row) (row : Row)
    → block.rows ≡ front ++ row ∷ [] → front ≡ []
    → rows_of (lists_of (blocks ++ block ∷ [])) ≡ rows_of (lists_of blocks) ++ pair_of row ∷ []
one_behind blocks block front row is none =
    rows_join blocks (block ∷ [])
    ∙ ap (λ (rows : List Row). rows_of (lists_of blocks) ++ (pairs_of rows ++ []))
    (is ∙ ap (λ some. some ++ row ∷ []) none)

pub end_behind : (blocks : List Block) (n at : ℕ) (row : Row) → rows_at n at blocks ≡ []
    → rows_of (lists_of blocks) ++ pair_of row ∷ []
    ≡ rows_until n at blocks ++ pair_of row ∷ rows_at n at blocks
end_behind blocks n at row none =
    ap (λ some. some ++ pair_of row ∷ [])
    (both_sides n at blocks ∙ ap (λ some. rows_until n at blocks ++ some) none
    ∙ append-nil (rows_until n at blocks))
    ∙ ap (λ some. rows_until n at blocks ++ pair_of row ∷ some) (sym none)

-- ---- a block in place of another
pub rows_set : (blocks : List Block) (n : ℕ) (new : Block) → n < length blocks
    → rows_of (lists_of (set blocks n new))
    ≡ rows_of (lists_of (take n blocks))
    ++ (pairs_of new.rows ++ rows_of (lists_of (drop (suc n) blocks)))
rows_set [] n new within = absurd (omega arith)
rows_set (block ∷ blocks) zero new within = refl
rows_set (block ∷ blocks) (suc n) new within =
    ap (λ later. pairs_of block.rows ++ later) (rows_set blocks n new (omega arith))
    ∙ sym (append_assoc (pairs_of block.rows) (rows_of (lists_of (take n blocks)))
    (pairs_of new.rows ++ rows_of (lists_of (drop (suc n) blocks))))

-- ---- a row more in a block
pub set_more : (blocks : List Block) (n row : ℕ) (new d : Block) (put : Row) → n < length blocks
    → new.rows ≡ insert (get_or blocks n d).rows row put
    → rows_of (lists_of (set blocks n new))
    ≡ rows_until n row blocks ++ pair_of put ∷ rows_at n row blocks
set_more blocks n row new d put within is =
    let rows = (get_or blocks n d).rows in
    let front = rows_of (lists_of (take n blocks)) in
    let back = rows_of (lists_of (drop (suc n) blocks)) in
    rows_set blocks n new within
    ∙ ap (λ (some : List Row). front ++ (pairs_of some ++ back)) is
    ∙ ap (λ some. front ++ (some ++ back)) (pairs_join (take row rows) (put ∷ drop row rows))
    ∙ ap (λ later. front ++ later)
    (append_assoc (pairs_of (take row rows)) (pair_of put ∷ pairs_of (drop row rows)) back)
    ∙ sym (append_assoc front (pairs_of (take row rows))
    (pair_of put ∷ (pairs_of (drop row rows) ++ back)))
    ∙ ap (λ before. before ++ pair_of put ∷ (pairs_of (drop row rows) ++ back))
    (sym (until_get blocks n row d within))
    ∙ ap (λ later. rows_until n row blocks ++ pair_of put ∷ later)
    (sym (rows_at_get blocks n row d within))

set_parts : (rows : List Row) (i : ℕ) (row : Row) → i < length rows
    → set rows i row ≡ take i rows ++ row ∷ drop (suc i) rows
set_parts [] i row within = absurd (omega arith)
set_parts (first ∷ rows) zero row within = refl
set_parts (first ∷ rows) (suc i) row within =
    ap (λ later. first ∷ later) (set_parts rows i row (omega arith))

-- another row in place of one
pub set_changed : (blocks : List Block) (n row : ℕ) (new d : Block) (put : Row) → n < length blocks
    → row < length (get_or blocks n d).rows → new.rows ≡ set (get_or blocks n d).rows row put
    → rows_of (lists_of (set blocks n new))
    ≡ rows_until n row blocks ++ pair_of put ∷ rows_at n (suc row) blocks
set_changed blocks n row new d put within inside is =
    let rows = (get_or blocks n d).rows in
    let front = rows_of (lists_of (take n blocks)) in
    let back = rows_of (lists_of (drop (suc n) blocks)) in
    rows_set blocks n new within
    ∙ ap (λ (some : List Row). front ++ (pairs_of some ++ back))
    (is ∙ set_parts rows row put inside)
    ∙ ap (λ some. front ++ (some ++ back)) (pairs_join (take row rows) (put ∷ drop (suc row) rows))
    ∙ ap (λ later. front ++ later)
    (append_assoc (pairs_of (take row rows)) (pair_of put ∷ pairs_of (drop (suc row) rows)) back)
    ∙ sym (append_assoc front (pairs_of (take row rows))
    (pair_of put ∷ (pairs_of (drop (suc row) rows) ++ back)))
    ∙ ap (λ before. before ++ pair_of put ∷ (pairs_of (drop (suc row) rows) ++ back))
    (sym (until_get blocks n row d within))
    ∙ ap (λ later. rows_until n row blocks ++ pair_of put ∷ later)
    (sym (rows_at_get blocks n (suc row) d within))

-- a row fewer in a block
pub set_fewer : (blocks : List Block) (n row : ℕ) (new d : Block) → n < length blocks
    → new.rows ≡ remove (get_or blocks n d).rows row
    → rows_of (lists_of (set blocks n new)) ≡ rows_until n row blocks ++ rows_at n (suc row) blocks
set_fewer blocks n row new d within is =
    let rows = (get_or blocks n d).rows in
    let front = rows_of (lists_of (take n blocks)) in
    let back = rows_of (lists_of (drop (suc n) blocks)) in
    rows_set blocks n new within
    ∙ ap (λ (some : List Row). front ++ (pairs_of some ++ back)) is
    ∙ ap (λ some. front ++ (some ++ back)) (pairs_join (take row rows) (drop (suc row) rows))
    ∙ ap (λ later. front ++ later)
    (append_assoc (pairs_of (take row rows)) (pairs_of (drop (suc row) rows)) back)
    ∙ sym (append_assoc front (pairs_of (take row rows)) (pairs_of (drop (suc row) rows) ++ back))
    ∙ ap (λ before. before ++ (pairs_of (drop (suc row) rows) ++ back))
    (sym (until_get blocks n row d within))
    ∙ ap (λ later. rows_until n row blocks ++ later) (sym (rows_at_get blocks n (suc row) d within))

-- a block fewer, which had one row
pub gone : (blocks : List Block) (n row : ℕ) (d : Block) → n < length blocks
    → length (get_or blocks n d).rows ≡ 1 → row < length (get_or blocks n d).rows
    → rows_of (lists_of (remove blocks n)) ≡ rows_until n row blocks ++ rows_at n (suc row) blocks
gone blocks n row d within one inside =
    let rows = (get_or blocks n d).rows in
    let front = rows_of (lists_of (take n blocks)) in
    let back = rows_of (lists_of (drop (suc n) blocks)) in
    let first : row ≡ 0 = omega (arith, one, inside) in
    let none : pairs_of (drop (suc row) rows) ≡ [] =
    ap pairs_of (drop_all rows (suc row) (omega (arith, one))) in
    let before : rows_until n row blocks ≡ front =
    ap (λ k. rows_until n k blocks) first ∙ until_get blocks n 0 d within ∙ append-nil front in
    let after : rows_at n (suc row) blocks ≡ back =
    rows_at_get blocks n (suc row) d within ∙ ap (λ some. some ++ back) none in
    rows_join (take n blocks) (drop (suc n) blocks) ∙ ap (λ some. some ++ back) (sym before)
    ∙ ap (λ some. rows_until n row blocks ++ some) (sym after)

-- ---- a block cut in two
until_behind : (xs ys : List Block) (n row : ℕ)
    → rows_until (length xs + n) row (xs ++ ys) ≡ rows_of (lists_of xs) ++ rows_until n row ys
until_behind [] ys n row = ap (λ k. rows_until k row ys) (omega arith)
until_behind (x ∷ xs) ys n row =
    let next : length (x ∷ xs) + n ≡ suc (length xs + n) = omega arith in
    ap (λ k. rows_until k row (x ∷ (xs ++ ys))) next
    ∙ ap (λ later. pairs_of x.rows ++ later) (until_behind xs ys n row)
    ∙ sym (append_assoc (pairs_of x.rows) (rows_of (lists_of xs)) (rows_until n row ys))

at_behind : (xs ys : List Block) (n row : ℕ)
    → rows_at (length xs + n) row (xs ++ ys) ≡ rows_at n row ys
at_behind [] ys n row = ap (λ k. rows_at k row ys) (omega arith)
at_behind (x ∷ xs) ys n row =
    let next : length (x ∷ xs) + n ≡ suc (length xs + n) = omega arith in
    ap (λ k. rows_at k row (x ∷ (xs ++ ys))) next ∙ at_behind xs ys n row

get_behind : (xs ys : List Block) (n : ℕ) (d : Block)
    → get_or (xs ++ ys) (length xs + n) d ≡ get_or ys n d
get_behind [] ys n d = ap (λ k. get_or ys k d) (omega arith)
get_behind (x ∷ xs) ys n d =
    let next : length (x ∷ xs) + n ≡ suc (length xs + n) = omega arith in
    ap (λ k. get_or (x ∷ (xs ++ ys)) k d) next ∙ get_behind xs ys n d

-- rows of the first part before a row, and from it on
take_first : (rows : List Row) (row count : ℕ) → row ≤ count
    → take row (take count rows) ≡ take row rows
take_first [] zero zero up = refl
take_first [] zero (suc count) up = refl
take_first [] (suc row) zero up = refl
take_first [] (suc row) (suc count) up = refl
take_first (first ∷ rows) zero zero up = refl
take_first (first ∷ rows) zero (suc count) up = refl
take_first (first ∷ rows) (suc row) zero up = absurd (omega arith)
take_first (first ∷ rows) (suc row) (suc count) up =
    ap (λ later. first ∷ later) (take_first rows row count (omega arith))

drop_first : (rows : List Row) (row count : ℕ) → row ≤ count
    → pairs_of (drop row (take count rows)) ++ pairs_of (drop count rows) ≡ pairs_of (drop row rows)
drop_first [] zero zero up = refl
drop_first [] zero (suc count) up = refl
drop_first [] (suc row) zero up = refl
drop_first [] (suc row) (suc count) up = refl
drop_first (first ∷ rows) zero zero up = refl
drop_first (first ∷ rows) zero (suc count) up =
    ap (λ later. pair_of first ∷ later) (sym (pairs_parts rows count))
drop_first (first ∷ rows) (suc row) zero up = absurd (omega arith)
drop_first (first ∷ rows) (suc row) (suc count) up = drop_first rows row count (omega arith)

-- and of the second
nothing : (n : ℕ) → pairs_of (take n []) ≡ []
nothing zero = refl
nothing (suc n) = refl

dropped : (n : ℕ) → drop {A = Row} n [] ≡ []
dropped zero = refl
dropped (suc n) = refl

take_second : (rows : List Row) (more count : ℕ)
    → pairs_of (take count rows) ++ pairs_of (take more (drop count rows))
    ≡ pairs_of (take (count + more) rows)
take_second rows more zero = ap (λ k. pairs_of (take k rows)) (omega arith)
take_second [] more (suc count) = nothing more ∙ sym (nothing (suc count + more))
take_second (first ∷ rows) more (suc count) =
    let next : suc count + more ≡ suc (count + more) = omega arith in
    ap (λ later. pair_of first ∷ later) (take_second rows more count)
    ∙ ap (λ k. pairs_of (take k (first ∷ rows))) (sym next)

drop_second : (rows : List Row) (more count : ℕ)
    → drop more (drop count rows) ≡ drop (count + more) rows
drop_second rows more zero = ap (λ k. drop k rows) (omega arith)
drop_second [] more (suc count) = dropped more ∙ sym (dropped (suc count + more))
drop_second (first ∷ rows) more (suc count) =
    let next : suc count + more ≡ suc (count + more) = omega arith in
    drop_second rows more count ∙ ap (λ k. drop k (first ∷ rows)) (sym next)

-- the list after a cut
cut_parts : (blocks : List Block) (n : ℕ) (first second : Block) → n < length blocks
    → take (suc n) (set blocks n first) ++ second ∷ drop (suc n) (set blocks n first)
    ≡ take n blocks ++ first ∷ second ∷ drop (suc n) blocks
cut_parts [] n first second within = absurd (omega arith)
cut_parts (block ∷ blocks) zero first second within = refl
cut_parts (block ∷ blocks) (suc n) first second within =
    ap (λ later. block ∷ later) (cut_parts blocks n first second (omega arith))

pub is_cut : (before after : List Block) (n count : ℕ) (first second d : Block) → n < length before
    → after ≡ insert (set before n first) (n + 1) second
    → first.rows ≡ take count (get_or before n d).rows
    → second.rows ≡ drop count (get_or before n d).rows
    → IsCut n count before after
is_cut before after n count first second d within made one other =
    let next : n + 1 ≡ suc n = omega arith in
    record {
      first = first;
      second = second;
      parts = made ∙ ap (λ k. insert (set before n first) k second) next
          ∙ cut_parts before n first second within;
      first_rows = λ e. one
          ∙ ap (λ (block : Block). take count block.rows) (get_or_default before n d e within);
      second_rows = λ e. other
          ∙ ap (λ (block : Block). drop count block.rows) (get_or_default before n d e within);
    }

-- a block with the same rows
pub set_same : (blocks : List Block) (n : ℕ) (new d : Block) → n < length blocks
    → new.rows ≡ (get_or blocks n d).rows
    → rows_of (lists_of (set blocks n new)) ≡ rows_of (lists_of blocks)
set_same blocks n new d within same =
    let front = rows_of (lists_of (take n blocks)) in
    let back = rows_of (lists_of (drop (suc n) blocks)) in
    rows_set blocks n new within ∙ ap (λ (rows : List Row). front ++ (pairs_of rows ++ back)) same
    ∙ ap (λ later. front ++ later) (sym (rows_at_get blocks n 0 d within))
    ∙ ap (λ some. some ++ rows_at n 0 blocks)
    (sym (append-nil front) ∙ sym (until_get blocks n 0 d within))
    ∙ sym (both_sides n 0 blocks)

pub place_within : (blocks : List Block) (n row : ℕ) → 0 < length blocks → IsPlace n row blocks
    → n < length blocks
place_within [] n row some place = absurd (omega arith)
place_within (block ∷ blocks) zero row some place = omega arith
place_within (block ∷ []) (suc n) row some place = absurd place
place_within (block ∷ other ∷ blocks) (suc n) row some place = let inner =
    place_within (other ∷ blocks) n row (omega arith) place in omega arith

length_front : {X : Type 0} (xs : List X) (n : ℕ) → n ≤ length xs → length (take n xs) ≡ n
length_front xs zero within = refl
length_front [] (suc n) within = absurd (omega arith)
length_front (x ∷ xs) (suc n) within = let inner = length_front xs n (omega arith) in omega arith

length_back : {X : Type 0} (xs : List X) (n : ℕ) → length (drop n xs) ≡ length xs - n
length_back xs zero = omega arith
length_back [] (suc n) = omega arith
length_back (x ∷ xs) (suc n) = let inner = length_back xs n in omega arith

-- the block of that number after a cut, and the next
record Behind (n : ℕ) (before after : List Block) (first second : Block) : Type 0 where
  front : rows_of (lists_of (take n before)) ≡ rows_of (lists_of (take n before))
  within : suc n < length after
  one : (d : Block) → get_or after n d ≡ first
  other : (d : Block) → get_or after (suc n) d ≡ second
  until_one : (row : ℕ)
      → rows_until n row after
      ≡ rows_of (lists_of (take n before)) ++ pairs_of (take row first.rows)
  at_one : (row : ℕ)
      → rows_at n row after
      ≡ pairs_of (drop row first.rows)
      ++ (pairs_of second.rows ++ rows_of (lists_of (drop (suc n) before)))
  until_other : (row : ℕ)
      → rows_until (suc n) row after
      ≡ rows_of (lists_of (take n before))
      ++ (pairs_of first.rows ++ pairs_of (take row second.rows))
  at_other : (row : ℕ)
      → rows_at (suc n) row after
      ≡ pairs_of (drop row second.rows) ++ rows_of (lists_of (drop (suc n) before))

behind : (front rest : List Block) (n : ℕ) (before after : List Block) (first second : Block)
    → front ≡ take n before → rest ≡ drop (suc n) before → length front ≡ n
    → after ≡ front ++ first ∷ second ∷ rest → Behind n before after first second
behind front rest n before after first second front_is rest_is count parts =
    let all = first ∷ second ∷ rest in
    let zeroth : n ≡ length front + 0 = omega (arith, count) in
    let next : suc n ≡ length front + 1 = omega (arith, count) in
    record {
      front = refl;
      within = rw parts (rw length-append (omega (arith, count)));
      one = λ d. ap (λ xs. get_or xs n d) parts ∙ ap (λ k. get_or (front ++ all) k d) zeroth
          ∙ get_behind front all 0 d;
      other = λ d. ap (λ xs. get_or xs (suc n) d) parts ∙ ap (λ k. get_or (front ++ all) k d) next
          ∙ get_behind front all 1 d;
      until_one = λ row. ap (rows_until n row) parts
          ∙ ap (λ k. rows_until k row (front ++ all)) zeroth ∙ until_behind front all 0 row
          ∙ ap (λ (xs : List Block). rows_of (lists_of xs) ++ pairs_of (take row first.rows))
          front_is;
      at_one = λ row. ap (rows_at n row) parts ∙ ap (λ k. rows_at k row (front ++ all)) zeroth
          ∙ at_behind front all 0 row
          ∙ ap (λ (xs : List Block). pairs_of (drop row first.rows)
          ++ (pairs_of second.rows ++ rows_of (lists_of xs))) rest_is;
      until_other = λ row. ap (rows_until (suc n) row) parts
          ∙ ap (λ k. rows_until k row (front ++ all)) next ∙ until_behind front all 1 row
          ∙ ap (λ (xs : List Block). rows_of (lists_of xs)
          ++ (pairs_of first.rows ++ pairs_of (take row second.rows))) front_is;
      at_other = λ row. ap (rows_at (suc n) row) parts ∙ ap (λ k. rows_at k row (front ++ all)) next
          ∙ at_behind front all 1 row
          ∙ ap (λ (xs : List Block). pairs_of (drop row second.rows) ++ rows_of (lists_of xs))
          rest_is;
    }

-- the same place after a cut
pub record IsSame (n row m other : ℕ) (before after : List Block) : Type 0 where
  pub room : HasRoom m other after
  pub until : rows_until m other after ≡ rows_until n row before
  pub from : rows_at m other after ≡ rows_at n row before

pub same_first : (before after : List Block) (n count row : ℕ) (d : Block)
    → IsCut n count before after → n < length before → row ≤ count
    → count ≤ length (get_or before n d).rows → count < most_rows
    → IsSame n row n row before after
same_first before after n count row d cut within up few small =
    let rows = (get_or before n d).rows in
    let back = rows_of (lists_of (drop (suc n) before)) in
    let know = behind (take n before) (drop (suc n) before) n before after cut.first cut.second refl
    refl (length_front before n (omega arith)) cut.parts in
    let size : length cut.first.rows ≡ count =
    ap length (cut.first_rows d) ∙ length_front rows count few in
    record {
      room = record {
        within = omega (arith, know.within);
        inside = λ e. rw (know.one e) (omega (arith, size));
        room = λ e. rw (know.one e) (omega (arith, size));
      };
      until = know.until_one row
          ∙ ap (λ some. rows_of (lists_of (take n before)) ++ pairs_of some)
          (ap (take row) (cut.first_rows d) ∙ take_first rows row count up)
          ∙ sym (until_get before n row d within);
      from = know.at_one row
          ∙ ap (λ (some : List Row). pairs_of (drop row some) ++ (pairs_of cut.second.rows ++ back))
          (cut.first_rows d)
          ∙ ap (λ (some : List Row). pairs_of (drop row (take count rows))
          ++ (pairs_of some ++ back)) (cut.second_rows d)
          ∙ sym (append_assoc (pairs_of (drop row (take count rows)))
          (pairs_of (drop count rows)) back)
          ∙ ap (λ some. some ++ back) (drop_first rows row count up)
          ∙ sym (rows_at_get before n row d within);
    }

pub same_second : (before after : List Block) (n count more row : ℕ) (d : Block)
    → IsCut n count before after → n < length before → row ≡ count + more
    → row ≤ length (get_or before n d).rows
    → length (get_or before n d).rows ≤ most_rows → 1 ≤ count
    → IsSame n row (suc n) more before after
same_second before after n count more row d cut within sum inside size some =
    let rows = (get_or before n d).rows in
    let front = rows_of (lists_of (take n before)) in
    let back = rows_of (lists_of (drop (suc n) before)) in
    let know = behind (take n before) (drop (suc n) before) n before after cut.first cut.second refl
    refl (length_front before n (omega arith)) cut.parts in
    let left : length cut.second.rows ≡ length rows - count =
    ap length (cut.second_rows d) ∙ length_back rows count in
    record {
      room = record {
        within = know.within;
        inside = λ e. rw (know.other e) (omega (arith, left, sum, inside));
        room = λ e. rw (know.other e) (omega (arith, left, sum, inside, size, some));
      };
      until = know.until_other more
          ∙ ap (λ (xs : List Row). front ++ (pairs_of xs ++ pairs_of (take more cut.second.rows)))
          (cut.first_rows d)
          ∙ ap (λ (xs : List Row). front ++ (pairs_of (take count rows) ++ pairs_of (take more xs)))
          (cut.second_rows d)
          ∙ ap (λ later. front ++ later) (take_second rows more count)
          ∙ ap (λ k. front ++ pairs_of (take k rows)) (sym sum)
          ∙ sym (until_get before n row d within);
      from = know.at_other more
          ∙ ap (λ (xs : List Row). pairs_of (drop more xs) ++ back) (cut.second_rows d)
          ∙ ap (λ (xs : List Row). pairs_of xs ++ back)
          (drop_second rows more count ∙ ap (λ k. drop k rows) (sym sum))
          ∙ sym (rows_at_get before n row d within);
    }

pub on_err : {X E : Type 0} (r : Result X E) (P Q : Type 0) → (P → Q) → OnErr r P → OnErr r Q
on_err (Ok x) P Q more is = tt
on_err (Err e) P Q more is = more is
