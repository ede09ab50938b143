-- Failures of a device: how they are counted, and at which calls a device in memory fails.
use Rattle.std.specs.Prelude.{◌≤◌, ℕ, List, Bool, nat_eq}
use Rattle.std.specs.List.{list_any}
use Rattle.gm_base.specs.Counter.{capped_sum}

-- a count of faults is greater, or stands at the greatest u64
abbrev pub Rose : ℕ → ℕ → Type 0
Rose before after = capped_sum before 1 ≤ after

-- a number is one of these
abbrev pub is_among : ℕ → List ℕ → Bool
is_among n numbers = list_any (λ m. nat_eq m n) numbers
