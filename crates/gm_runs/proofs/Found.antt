-- The run that may hold a number, found by bisection.
use Rattle.std.proofs.Common.{⊎_elim, inl, inr, ℕ, zero, suc, ◌+◌, ◌<◌, ◌≤◌, List, [], ◌∷◌, length}
use Rattle.std.proofs.Common.{get_or, arith}
use Rattle.std.specs.List.Sorted.{IsNonDecreasingBy}
use Rattle.gm_runs.specs.Runs.{HasNumber, AreRunsFrom}
use Rattle.gm_runs.proofs.Apart.{at_least}

-- the end of each run is at or above the least number
end_from : (least : ℕ) (xs : List (ℕ × ℕ)) (j : ℕ) (d : ℕ × ℕ) → AreRunsFrom least xs
    → j < length xs → least ≤ (get_or xs j d).1
end_from least [] j d runs less = absurd (omega arith)
end_from least (x ∷ xs) zero d runs less = omega arith
end_from least (x ∷ xs) (suc j) d runs less =
    omega (arith, end_from (x.1 + 2) xs j d runs.2 (omega arith))

pub ends_rise : (least : ℕ) (xs : List (ℕ × ℕ)) → AreRunsFrom least xs
    → IsNonDecreasingBy (λ r. r.1) xs
ends_rise least [] runs i j d rise less = absurd (omega arith)
ends_rise least (x ∷ xs) runs zero zero d rise less = omega arith
ends_rise least (x ∷ xs) runs zero (suc j) d rise less =
    omega (arith, end_from (x.1 + 2) xs j d runs.2 (omega arith))
ends_rise least (x ∷ xs) runs (suc i) zero d rise less = absurd (omega arith)
ends_rise least (x ∷ xs) runs (suc i) (suc j) d rise less =
    ends_rise (x.1 + 2) xs runs.2 i j d (omega arith) (omega arith)

-- the first run that does not end before the number
pub found_from : (least : ℕ) (xs : List (ℕ × ℕ)) (c i : ℕ) (d : ℕ × ℕ) → AreRunsFrom least xs
    → ((k : ℕ) → k < i → (get_or xs k d).1 < c)
    → ((k : ℕ) → i ≤ k → k < length xs → c ≤ (get_or xs k d).1)
    → HasNumber xs c → (i < length xs) × ((get_or xs i d).0 ≤ c)
found_from least [] c i d runs before behind has = absurd has
found_from least (x ∷ xs) c zero d runs before behind has =
    ⊎_elim (λ here. ((omega arith), here.0))
    (λ there. absurd
    (omega (
      arith,
      at_least (x.1 + 2) xs c runs.2 there,
      behind 0 (omega arith) (omega arith),
    ))) has
found_from least (x ∷ xs) c (suc i) d runs before behind has =
    ⊎_elim (λ here. absurd (omega (arith, here.1, before 0 (omega arith))))
    (λ there. let rest =
    found_from (x.1 + 2) xs c i d runs.2 (λ k less. before (suc k) (omega arith))
    (λ k from less. behind (suc k) (omega arith) (omega arith)) there in
    ((omega (arith, rest.0)), rest.1)) has

pub has_from : (xs : List (ℕ × ℕ)) (c i : ℕ) (d : ℕ × ℕ) → i < length xs → (get_or xs i d).0 ≤ c
    → c ≤ (get_or xs i d).1 → HasNumber xs c
has_from [] c i d less from to = absurd (omega arith)
has_from (x ∷ xs) c zero d less from to = inl (from, to)
has_from (x ∷ xs) c (suc i) d less from to = inr (has_from xs c i d (omega arith) from to)

pub run_of : (xs : List (ℕ × ℕ)) (c : ℕ) (d : ℕ × ℕ) → HasNumber xs c
    → (i : ℕ) × (i < length xs) × ((get_or xs i d).0 ≤ c) × (c ≤ (get_or xs i d).1)
run_of [] c d has = absurd has
run_of (x ∷ xs) c d has =
    ⊎_elim (λ here. (0, (omega arith), here.0, here.1))
    (λ there. let at = run_of xs c d there in
    (suc at.0, (let less = at.1 in omega arith), at.2, at.3)) has

-- ---- runs rise
pub run_rises : (least : ℕ) (xs : List (ℕ × ℕ)) (i : ℕ) (d : ℕ × ℕ) → AreRunsFrom least xs
    → i < length xs → (get_or xs i d).0 ≤ (get_or xs i d).1
run_rises least [] i d runs less = absurd (omega arith)
run_rises least (x ∷ xs) zero d runs less = runs.1
run_rises least (x ∷ xs) (suc i) d runs less = run_rises (x.1 + 2) xs i d runs.2 (omega arith)

low_from : (least : ℕ) (xs : List (ℕ × ℕ)) (i : ℕ) (d : ℕ × ℕ) → AreRunsFrom least xs
    → i < length xs → least ≤ (get_or xs i d).0
low_from least [] i d runs less = absurd (omega arith)
low_from least (x ∷ xs) zero d runs less = runs.0
low_from least (x ∷ xs) (suc i) d runs less =
    omega (arith, low_from (x.1 + 2) xs i d runs.2 (omega arith))

pub next_apart : (least : ℕ) (xs : List (ℕ × ℕ)) (i : ℕ) (d : ℕ × ℕ) → AreRunsFrom least xs
    → suc i < length xs → (get_or xs i d).1 + 1 < (get_or xs (suc i) d).0
next_apart least [] i d runs less = absurd (omega arith)
next_apart least (x ∷ xs) zero d runs less =
    omega (arith, low_from (x.1 + 2) xs 0 d runs.2 (omega arith))
next_apart least (x ∷ xs) (suc i) d runs less = next_apart (x.1 + 2) xs i d runs.2 (omega arith)
