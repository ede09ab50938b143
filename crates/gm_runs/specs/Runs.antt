-- Sets of numbers by their maximal runs.
use Rattle.std.specs.Prelude.{◌≤◌, ◌⊎◌, ◌↔◌, ℕ, zero, suc, ◌+◌, Bool, cond, eqb, List, [], ◌∷◌}

-- a number is in the set where one of the intervals holds it
abbrev pub HasNumber : List (ℕ × ℕ) → ℕ → Type 0
HasNumber [] c = ⊥
HasNumber (run ∷ runs) c = ((run.0 ≤ c) × (c ≤ run.1)) ⊎ HasNumber runs c

-- the intervals lie at or above a number, and rise, with at least one number left out between
-- neighbours
abbrev pub AreRunsFrom : ℕ → List (ℕ × ℕ) → Type 0
AreRunsFrom least [] = Unit {0}
AreRunsFrom least (run ∷ runs) = (least ≤ run.0) × (run.0 ≤ run.1) × AreRunsFrom (run.1 + 2) runs

-- sorted, disjoint intervals that do not touch
abbrev pub AreRuns : List (ℕ × ℕ) → Type 0
AreRuns runs = AreRunsFrom 0 runs

-- the maximal runs of a set that is given by a fact of each number: the runs that hold exactly the
-- set
pub record AreMaximalRuns (runs : List (ℕ × ℕ)) (IsIn : ℕ → Type 0) : Type 0 where
  pub apart : AreRuns runs
  pub exact : (c : ℕ) → HasNumber runs c ↔ IsIn c

-- the new set is the old one with the numbers from low to high
abbrev pub AddsBetween : ℕ → ℕ → List (ℕ × ℕ) → List (ℕ × ℕ) → Type 0
AddsBetween low high old new =
    (c : ℕ) → HasNumber new c ↔ (HasNumber old c ⊎ ((low ≤ c) × (c ≤ high)))

-- a number put before runs that lie above it, joined with the first where they touch
abbrev pub with_first : ℕ → List (ℕ × ℕ) → List (ℕ × ℕ)
with_first n [] = (n, n) ∷ []
with_first n (run ∷ runs) = cond (eqb run.0 (n + 1)) ((n, run.1) ∷ runs) ((n, n) ∷ run ∷ runs)

-- the maximal runs of the count numbers from low on that pass a test
unfoldable pub runs_from : (ℕ → Bool) → ℕ → ℕ → List (ℕ × ℕ)
runs_from test low zero = []
runs_from test low (suc count) =
    cond (test low) (with_first low (runs_from test (low + 1) count))
    (runs_from test (low + 1) count)

-- the maximal runs of the numbers below n that pass a test
abbrev pub maximal_runs : (ℕ → Bool) → ℕ → List (ℕ × ℕ)
maximal_runs test n = runs_from test 0 n
