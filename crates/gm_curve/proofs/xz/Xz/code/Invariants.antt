use Rattle.std.proofs.Common.{◌≡◌, ◌+◌}
use Rattle.gm_curve.specs.Xz.{sequence_of}
use Rattle.gm_curve.proofs.Codes.{rest_of_place}
use Rattle.gm_curve.proofs.Places.{place}
use Rattle.gm_curve.proofs.xz.Xz.code.Given as goal

abbrev pub invariant-loop-i : goal.invariant-loop-i
invariant-loop-i g l =
    l.code + rest_of_place g.row.D g.row.G l.level l.i l.low
    ≡ place g.row.D g.row.G (sequence_of g.row.G l.level l.low)
