-- What lists of runs keep, as their crate promises it.
use Rattle.std.specs.Prelude.{◌≡◌, ◌<◌, ◌↔◌, ℕ, Bool, true, List}
use Rattle.gm_runs.specs.Runs.{AreRuns, HasNumber, AreMaximalRuns, maximal_runs}

-- a set has one list of maximal runs, and the runs of a test hold what passes it
pub record RunLaws : Type 0 where
  pub one : (a b : List (ℕ × ℕ)) → AreRuns a → AreRuns b
      → ((c : ℕ) → HasNumber a c ↔ HasNumber b c) → a ≡ b
  pub maximal : (test : ℕ → Bool) (n : ℕ)
      → AreMaximalRuns (maximal_runs test n) (λ c. (c < n) × (test c ≡ true))
