use Rattle.std.proofs.Common.{ℕ, ◌<◌, ◌≤◌, ◌+◌}
use Rattle.std.specs.Prelude.{slice_index}
use Rattle.gm_curve.proofs.xz.longest_side.Given as goal

abbrev pub invariant-loop-d : goal.invariant-loop-d
invariant-loop-d l = record {
  most : (k : ℕ) → k < l.d → slice_index l.high k ≤ slice_index l.low k + l.side;
  least : (n : ℕ) → ((d : ℕ) → slice_index l.high d ≤ slice_index l.low d + n) → l.side ≤ n;
}
