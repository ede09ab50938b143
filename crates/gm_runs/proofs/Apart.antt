-- The numbers of runs that lie at or above a number.
use Rattle.std.proofs.Common.{⊎_elim, ℕ, ◌+◌, ◌≤◌, List, [], ◌∷◌, arith}
use Rattle.gm_runs.specs.Runs.{HasNumber, AreRunsFrom}

-- the numbers of runs from a number on are at least that
pub at_least : (least : ℕ) (xs : List (ℕ × ℕ)) (c : ℕ) → AreRunsFrom least xs
    → HasNumber xs c → least ≤ c
at_least least [] c runs has = absurd has
at_least least (x ∷ xs) c runs has =
    ⊎_elim (λ here. omega arith) (λ there. omega (arith, at_least (x.1 + 2) xs c runs.2 there)) has

pub from_less : (less least : ℕ) (xs : List (ℕ × ℕ)) → less ≤ least → AreRunsFrom least xs
    → AreRunsFrom less xs
from_less less least [] h runs = tt
from_less less least (x ∷ xs) h runs = ((omega arith), runs.1, runs.2)
