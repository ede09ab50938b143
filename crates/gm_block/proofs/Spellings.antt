-- Bytes that parts spell, of which there is one reading.
use Rattle.std.proofs.Common.{◌≡◌, ◌∙◌, ◌++◌, ◌∷◌, ◌+◌, ◌*◌, ◌/◌, ◌<◌, ◌≤◌, ◌^◌, ℕ, List, []}
use Rattle.std.proofs.Common.{length, take, drop, get_or, refl, sym, ap, subst, arith, append_assoc}
use Rattle.std.proofs.Common.{length-append}
use Rattle.std.proofs.lemmas.Grind.{common_steps}
use Rattle.std.proofs.lemmas.List.{append-nil, take_more}
use Rattle.std.specs.List.{AllByRecursion}
use Rattle.std.proofs.Math.Seq.{take-append_seam, drop-append_seam}
use Rattle.std.proofs.lemmas.Nat.{from_be_bytes-to_be_bytes_4}
use Rattle.std.specs.Int.{to_be_bytes, from_be_bytes, w32}
use Rattle.gm_table.specs.declared.row.Row.{Row}
use Rattle.gm_block.specs.Parts.{part_bytes, row_bytes, rows_bytes, IsShort}
use Rattle.gm_block.specs.Block.{AreRows}

-- two lists laid end to end, whose first parts are as long
same_front : (xs ys us vs : List ℕ) → xs ++ ys ≡ us ++ vs → length xs ≡ length us
    → (xs ≡ us) × (ys ≡ vs)
same_front xs ys us vs whole long = (
  sym (take-append_seam xs ys) ∙ ap (λ n. take n (xs ++ ys)) long ∙ ap (take (length us)) whole
      ∙ take-append_seam us vs,
  sym (drop-append_seam xs ys) ∙ ap (λ n. drop n (xs ++ ys)) long ∙ ap (drop (length us)) whole
      ∙ drop-append_seam us vs,
)

pub same_number : (m n : ℕ) (xs ys : List ℕ) → m < 2 ^ 32 → n < 2 ^ 32
    → to_be_bytes w32 m ++ xs ≡ to_be_bytes w32 n ++ ys → (m ≡ n) × (xs ≡ ys)
same_number m n xs ys small few whole =
    let parts = same_front (to_be_bytes w32 m) xs (to_be_bytes w32 n) ys whole refl in (
      sym (from_be_bytes-to_be_bytes_4 m small) ∙ ap (from_be_bytes w32) parts.0
          ∙ from_be_bytes-to_be_bytes_4 n few,
      parts.1,
    )

pub same_part : (p q xs ys : List ℕ) → length p < 2 ^ 32 → length q < 2 ^ 32
    → part_bytes p ++ xs ≡ part_bytes q ++ ys → (p ≡ q) × (xs ≡ ys)
same_part p q xs ys short few whole =
    let number = same_number (length p) (length q) (p ++ xs) (q ++ ys) short few
    (sym (append_assoc (to_be_bytes w32 (length p)) p xs) ∙ whole
    ∙ append_assoc (to_be_bytes w32 (length q)) q ys) in
    same_front p xs q ys number.1 number.0

pub same_row : (one other : Row) (xs ys : List ℕ) → IsShort one → IsShort other
    → row_bytes one ++ xs ≡ row_bytes other ++ ys
    → (one.key ≡ other.key) × (one.bytes ≡ other.bytes) × (xs ≡ ys)
same_row one other xs ys short few whole =
    let key = same_part one.key other.key (part_bytes one.bytes ++ xs)
    (part_bytes other.bytes ++ ys) short.0 few.0
    (sym (append_assoc (part_bytes one.key) (part_bytes one.bytes) xs) ∙ whole
    ∙ append_assoc (part_bytes other.key) (part_bytes other.bytes) ys) in
    let bytes = same_part one.bytes other.bytes xs ys short.1 few.1 key.1 in
    (key.0, bytes.0, bytes.1)

same_record : (one other : Row) → one.key ≡ other.key → one.bytes ≡ other.bytes → one ≡ other
same_record one other keys bytes =
    let made : List ℕ → List ℕ → Row = λ k b. record { key = k; bytes = b } in
    ap (λ k. made k one.bytes) keys ∙ ap (λ b. made other.key b) bytes

-- rows that were read are the first of the rows that are spelled
pub first_rows : (read rows : List Row) (rest : List ℕ) → AllByRecursion IsShort read
    → AllByRecursion IsShort rows → length read ≤ length rows
    → rows_bytes rows ≡ rows_bytes read ++ rest
    → (later : List Row) × (rows ≡ read ++ later) × (rows_bytes later ≡ rest)
first_rows [] rows rest short few many whole = (rows, refl, whole)
first_rows (row ∷ read) [] rest short few many whole = absurd (omega arith)
first_rows (row ∷ read) (other ∷ rows) rest short few many whole =
    let same = same_row other row (rows_bytes rows) (rows_bytes read ++ rest) few.0 short.0
    (whole ∙ append_assoc (row_bytes row) (rows_bytes read) rest) in
    let rows_are = first_rows read rows rest short.1 few.1 (omega arith) same.2 in (
      rows_are.0,
      ap (λ (first : Row). first ∷ rows) (same_record other row same.0 same.1)
          ∙ ap (λ more. row ∷ more) rows_are.1,
      rows_are.2,
    )

pub rows_bytes-push : (rows : List Row) (row : Row)
    → rows_bytes (rows ++ row ∷ []) ≡ rows_bytes rows ++ row_bytes row
rows_bytes-push [] row = append-nil (row_bytes row)
rows_bytes-push (first ∷ rows) row =
    ap (λ later. row_bytes first ++ later) (rows_bytes-push rows row)
    ∙ sym (append_assoc (row_bytes first) (rows_bytes rows) (row_bytes row))

pub short-push : (rows : List Row) (row : Row) → AllByRecursion IsShort rows → IsShort row
    → AllByRecursion IsShort (rows ++ row ∷ [])
short-push [] row short here = (here, tt)
short-push (first ∷ rows) row short here = (short.0, short-push rows row short.1 here)

pub rows_bytes-more : (rows : List Row) (i : ℕ) (row : Row) → i < length rows
    → row ≡ get_or rows i row
    → rows_bytes (take (i + 1) rows) ≡ rows_bytes (take i rows) ++ row_bytes row
rows_bytes-more rows i row inside is =
    ap rows_bytes (take_more rows i row inside
    ∙ ap (λ (one : Row). take i rows ++ one ∷ []) (sym is)) ∙ rows_bytes-push (take i rows) row

-- ---- the row after those that were read
short_in : (read : List Row) (row : Row) (later : List Row)
    → AllByRecursion IsShort (read ++ row ∷ later) → IsShort row
short_in [] row later short = short.0
short_in (first ∷ read) row later short = short_in read row later short.1

-- a row is spelled next, behind those that were read
pub record IsNext (read rows : List Row) (rest : List ℕ) : Type 0 where
  pub row : Row
  pub later : List Row
  pub parts : rows ≡ read ++ row ∷ later
  pub spelled : rest ≡ row_bytes row ++ rows_bytes later
  pub short : IsShort row

found : (read rows : List Row) (rest : List ℕ) (later : List Row) → rows ≡ read ++ later
    → rows_bytes later ≡ rest → length read < length rows → AllByRecursion IsShort rows
    → IsNext read rows rest
found read rows rest [] parts spelled few short =
    absurd (let e = ap length parts in grind (arith, common_steps, e))
found read rows rest (row ∷ later) parts spelled few short = record {
  row = row;
  later = later;
  parts = parts;
  spelled = sym spelled;
  short = short_in read row later (subst (AllByRecursion IsShort) parts short);
}

pub next_row : (count : ℕ) (read rows : List Row) (rest bytes : List ℕ) → AreRows count rows bytes
    → AllByRecursion IsShort read → length read < count → bytes ≡ rows_bytes read ++ rest
    → IsNext read rows rest
next_row count read rows rest bytes are short few whole =
    let many : length read < length rows = omega (arith, few, are.count_is) in
    let first = first_rows read rows rest short are.short (omega (arith, many))
    (sym are.spelled ∙ whole) in
    found read rows rest first.0 first.1 first.2 many are.short

none_left : (read later : List Row) (count : ℕ) → length (read ++ later) ≡ count
    → length read ≡ count → later ≡ []
none_left read [] count all some = refl
none_left read (row ∷ later) count all some =
    absurd (omega (arith, all, some, length-append read (row ∷ later)))

-- nothing follows the last row
pub no_rest : (count : ℕ) (read rows : List Row) (rest bytes : List ℕ) → AreRows count rows bytes
    → AllByRecursion IsShort read → length read ≡ count
    → bytes ≡ rows_bytes read ++ rest → rest ≡ []
no_rest count read rows rest bytes are short all whole =
    let first = first_rows read rows rest short are.short (omega (arith, all, are.count_is))
    (sym are.spelled ∙ whole) in
    let none = none_left read first.0 count (sym (ap length first.1) ∙ are.count_is) all in
    sym first.2 ∙ ap rows_bytes none

-- so many rows have 8 bytes each, or more
rows_long : (rows : List Row) → 8 * length rows ≤ length (rows_bytes rows)
rows_long [] = omega arith
rows_long (row ∷ rows) =
    let later = rows_long rows in
    omega (
      arith,
      later,
      length-append (row_bytes row) (rows_bytes rows),
      length-append (part_bytes row.key) (part_bytes row.bytes),
      length-append (to_be_bytes w32 (length row.key)) row.key,
      length-append (to_be_bytes w32 (length row.bytes)) row.bytes,
    )

pub too_few : (count : ℕ) (rows : List Row) (bytes : List ℕ) → AreRows count rows bytes
    → length bytes / 8 < count → ⊥
too_few count rows bytes are few =
    let long = rows_long rows in
    let spelled = ap length are.spelled in
    omega (arith, few, long, spelled, are.count_is)

append-nil-rows : (rows : List Row) → rows ++ [] ≡ rows
append-nil-rows [] = refl
append-nil-rows (row ∷ rows) = ap (λ later. row ∷ later) (append-nil-rows rows)

-- rows with the same bytes are one, behind their number
pub same_rows : (one other : List Row) → AllByRecursion IsShort one → AllByRecursion IsShort other
    → length one ≡ length other → rows_bytes one ≡ rows_bytes other → one ≡ other
same_rows one other short few many whole =
    let first = first_rows one other [] short few (omega (arith, many))
    (sym whole ∙ sym (append-nil (rows_bytes one))) in
    let none = none_left one first.0 (length other) (sym (ap length first.1)) many in
    sym (append-nil-rows one) ∙ ap (λ later. one ++ later) (sym none) ∙ sym first.1

pub laid : (a b c k p : List ℕ) → ((a ++ (b ++ c)) ++ k) ++ p ≡ a ++ (b ++ (c ++ (k ++ p)))
laid a b c k p = simp append_assoc
