-- What is flushed of what a sink has written.
use Rattle.std.specs.Prelude.{◌≤◌, ℕ, List, length, Option, Some, None}
use Rattle.std.specs.Option.{ForSome}
use Rattle.std.proofs.Common.{subst}
use Rattle.std.proofs.lemmas.Option.{same_Some, none-some}

-- no more than was written, where that is told
abbrev pub IsWithin : Option (List ℕ) → ℕ → Type 0
IsWithin written flushed = ForSome written (λ bytes. flushed ≤ length bytes)

-- where it is told
pub within_some : (bytes : List ℕ) (flushed : ℕ) → flushed ≤ length bytes
    → IsWithin (Some bytes) flushed
within_some bytes flushed inside =
    λ all is. subst (λ known. flushed ≤ length known) (same_Some bytes all is) inside

-- and where it is not
pub within_none : (flushed : ℕ) → IsWithin None flushed
within_none flushed = λ all is. absurd (none-some all is)
