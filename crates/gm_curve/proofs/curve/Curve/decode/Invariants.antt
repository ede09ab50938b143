use Rattle.std.proofs.Common.{◌≡◌, ℕ, ◌<◌, ◌/◌, ◌^◌}
use Rattle.std.specs.Prelude.{slice_index}
use Rattle.gm_curve.specs.Spreading.{gather_of}
use Rattle.gm_curve.proofs.curve.Curve.decode.Given as goal

abbrev pub invariant-loop-d : goal.invariant-loop-d
invariant-loop-d g l = (k : ℕ) → k < l.d → slice_index l.at k ≡ gather_of g.row.D (l.code / 2 ^ k)
