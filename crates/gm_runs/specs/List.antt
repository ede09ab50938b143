-- What an insertion makes of a list of runs.
use Rattle.std.specs.Prelude.{ℕ, ◌+◌, min, max, cond, ltb, List, [], ◌∷◌, Option, Some, None}

-- the numbers from low to high besides, joined with the runs that they touch
abbrev pub inserted : ℕ → ℕ → List (ℕ × ℕ) → List (ℕ × ℕ)
inserted low high [] = (low, high) ∷ []
inserted low high (run ∷ runs) =
    cond (ltb (high + 1) run.0) ((low, high) ∷ run ∷ runs)
    (cond (ltb (run.1 + 1) low) (run ∷ inserted low high runs)
    (inserted (min low run.0) (max high run.1) runs))

-- what becomes of the rest, where numbers are still kept back
abbrev pub pending : Option (ℕ × ℕ) → List (ℕ × ℕ) → List (ℕ × ℕ)
pending None rest = rest
pending (Some kept) rest = inserted kept.0 kept.1 rest
