use Rattle.std.proofs.Common.{ℕ, ◌<◌, ◌≤◌, ◌+◌, ◌/◌, ◌^◌}
use Rattle.std.specs.Prelude.{slice_index}
use Rattle.gm_curve.proofs.xz.is_covered.Given as goal

abbrev pub invariant-loop-d : goal.invariant-loop-d
invariant-loop-d l =
    (k : ℕ) → k < l.d → slice_index l.high k / 2 ^ l.shift ≤ slice_index l.low k / 2 ^ l.shift + 1
