-- All rows of ranges, handed to a visitor.
use Rattle.std.proofs.Common.{◌≡◌, ℕ, ◌-◌, ◌≤◌, List, [], ◌∷◌, length, take, refl, ap, ◌∙◌, arith}
use Rattle.std.proofs.Common.{length-append}
use Rattle.std.specs.Prelude.{Result, Ok, Err, ⊤, IfErr, OnErr, slice_range}
use Rattle.gm_base.specs.Spans.{Span}
use Rattle.gm_base.specs.declared.NoMemory.{NoMemory}
use Rattle.gm_table.specs.Sorted.{Rows}
use Rattle.gm_table.specs.Spans.{rows_in}
use Rattle.gm_table.specs.Visit.{Stops}

-- ---- all of a list
all_taken : {A : Type 0} (xs : List A) → take (length xs) xs ≡ xs
all_taken [] = refl
all_taken (x ∷ xs) = ap (λ ys. x ∷ ys) (all_taken xs)

whole : {A : Type 0} (xs : List A) (n : ℕ) → n ≡ length xs → slice_range xs 0 n ≡ xs
whole xs n is = let all : n - 0 ≡ length xs = omega (arith, is) in
    ap (λ (k : ℕ). take k xs) all ∙ all_taken xs

-- ---- a visitor that refused a row was handed no more than there are
handed_few : {V : Type 0} (takes : V → List ℕ → List ℕ → Result ⊤ NoMemory → V → Type 0)
    (before : V) (rows : Rows) (fault : NoMemory) (after : V) (handed : ℕ)
    → Stops takes before rows fault after handed → handed ≤ length rows
handed_few takes before rows fault after handed stops =
    omega (
      arith,
      stops.count,
      ap length stops.parts,
      length-append stops.front (stops.refused ∷ stops.rest),
    )

pub stopped_few : {V : Type 0} (takes : V → List ℕ → List ℕ → Result ⊤ NoMemory → V → Type 0)
    (before : V) (read rows : Rows) (after : V) (r : Result ⊤ NoMemory) (raised : ℕ → Type 0)
    → read ≡ rows → IfErr r
    (λ fault. (handed : ℕ) × Stops takes before read fault after handed × raised handed)
    → OnErr r ((handed : ℕ) × (handed ≤ length rows) × raised handed)
stopped_few takes before read rows after (Ok answer) raised is stops = tt
stopped_few takes before read rows after (Err fault) raised is stops =
    let told : (handed : ℕ) × Stops takes before read fault after handed × raised handed = stops in
    let few : told.0 ≤ length rows =
    omega (arith, handed_few takes before read fault after told.0 told.1, ap length is) in
    (told.0, few, told.2)

-- ---- the rows of all ranges
pub rows_all : (ranges : List Span) (n : ℕ) (rows : Rows) → n ≡ length ranges
    → rows_in (slice_range ranges 0 n) rows ≡ rows_in ranges rows
rows_all ranges n rows is = ap (λ some. rows_in some rows) (whole ranges n is)
