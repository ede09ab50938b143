-- Rows and the features that they hold.
use Rattle.std.proofs.Common.{◌≡◌, ℕ, ◌+◌, ◌≤◌, true, false, cond, List, [], ◌∷◌, ◌++◌, length}
use Rattle.std.proofs.Common.{refl, sym, ◌∙◌, arith, length-append}
use Rattle.std.proofs.lemmas.List.Elements.{All-head, All-tail}
use Rattle.std.specs.Prelude.{All, if◌then◌else◌}
use Rattle.gm_base.specs.Spans.{Span}
use Rattle.gm_table.specs.Apart.{times_inside, AreApart}
use Rattle.gm_table.specs.Sorted.{Rows, is_within, between}
use Rattle.gm_table.specs.Spans.{rows_in}
use Rattle.gm_types.specs.Specification.{Specification}
use Rattle.gm_feature.specs.declared.feature.Feature.{Feature}
use Rattle.gm_feature.specs.Feature.{Fits}
use Rattle.gm_feature.specs.Writer.{feature_bytes}
use Rattle.gm_filter.specs.Tree.{Tree}
use Rattle.gm_filter.specs.Truth.{is_true}
use Rattle.gm_scan.specs.Held.{HasFeature, Hold, matching}

pub some_held : (t : Specification) (rows : Rows) → All (λ row. HasFeature t row.1) rows
    → (held : List Feature) × Hold t rows held
some_held t [] each = ([], tt)
some_held t (row ∷ rows) each =
    let here = All-head (λ r. HasFeature t r.1) row rows each in
    let rest = some_held t rows (All-tail (λ r. HasFeature t r.1) row rows each) in
    (here.0 ∷ rest.0, (here.1, rest.1))

abbrev pub BytesTell : Specification → Type 0
BytesTell t = (f g : Feature) → Fits t f → Fits t g → feature_bytes f ≡ feature_bytes g → f ≡ g

pub one_held : (t : Specification) → BytesTell t → (rows : Rows) (held other : List Feature)
    → Hold t rows held → Hold t rows other → held ≡ other
one_held t tell [] [] [] here there = refl
one_held t tell [] [] (g ∷ other) here there = absurd there
one_held t tell [] (f ∷ held) other here there = absurd here
one_held t tell (row ∷ rows) [] other here there = absurd here
one_held t tell (row ∷ rows) (f ∷ held) [] here there = absurd there
one_held t tell (row ∷ rows) (f ∷ held) (g ∷ other) here there =
    let first = tell f g here.0.fits there.0.fits (sym here.0.same ∙ there.0.same) in
    let rest = one_held t tell rows held other here.1 there.1 in
    λ i. first i ∷ rest i

pub joined_held : (t : Specification) (front back : Rows) (held others : List Feature)
    → Hold t front held → Hold t back others → Hold t (front ++ back) (held ++ others)
joined_held t [] back [] others here there = there
joined_held t [] back (f ∷ held) others here there = absurd here
joined_held t (row ∷ front) back [] others here there = absurd here
joined_held t (row ∷ front) back (f ∷ held) others here there =
    (here.0, joined_held t front back held others here.1 there)

pub matching_cons : (t : Tree) (f : Feature) (fs : List Feature)
    → matching t (f ∷ []) ++ matching t fs ≡ matching t (f ∷ fs)
matching_cons t f fs =
    elim (is_true f t) as
    (λ b. cond b (f ∷ []) [] ++ matching t fs ≡ cond b (f ∷ matching t fs) (matching t fs))
    [ true ↦ refl | false ↦ refl ]

-- ---- how many rows there are in ranges
-- the ranges that hold the keys of the rows, each as often as it does
abbrev total : List Span → Rows → ℕ
total ranges [] = 0
total ranges (row ∷ rows) = times_inside row.0 ranges + total ranges rows

total_none : (rows : Rows) → total [] rows ≡ 0
total_none [] = refl
total_none (row ∷ rows) = omega (arith, total_none rows)

length_kept : (low high : List ℕ) (row : List ℕ × List ℕ) (rows : Rows)
    → length (between low high (row ∷ rows))
    ≡ (if is_within low high row.0 then 1 else 0) + length (between low high rows)
length_kept low high row rows =
    elim (is_within low high row.0) as
    (λ b. length (cond b (row ∷ between low high rows) (between low high rows))
    ≡ (if b then 1 else 0) + length (between low high rows))
    [ true ↦ omega arith | false ↦ omega arith ]

total_more : (range : Span) (ranges : List Span) (rows : Rows)
    → total (range ∷ ranges) rows ≡ length (between range.0 range.1 rows) + total ranges rows
total_more range ranges [] = omega arith
total_more range ranges (row ∷ rows) =
    omega (arith, total_more range ranges rows, length_kept range.0 range.1 row rows)

total_is : (ranges : List Span) (rows : Rows) → length (rows_in ranges rows) ≡ total ranges rows
total_is [] rows = sym (total_none rows)
total_is (range ∷ ranges) rows =
    omega (
      arith,
      total_is ranges rows,
      total_more range ranges rows,
      length-append (between range.0 range.1 rows) (rows_in ranges rows),
    )

total_few : (ranges : List Span) → AreApart ranges → (rows : Rows) → total ranges rows ≤ length rows
total_few ranges apart [] = omega arith
total_few ranges apart (row ∷ rows) = omega (arith, apart row.0, total_few ranges apart rows)

pub few_rows : (ranges : List Span) (rows : Rows) → AreApart ranges
    → length (rows_in ranges rows) ≤ length rows
few_rows ranges rows apart = omega (arith, total_is ranges rows, total_few ranges apart rows)
