use Rattle.std.proofs.Common.{◌≡◌, take, length, min, ◌-◌, ◌^◌}
use Rattle.gm_geom.specs.Geometry.{joined}
use Rattle.gm_geom.proofs.validity.count_of.Given as goal

abbrev pub invariant-lines : goal.invariant-lines
invariant-lines l = l.count ≡ min (length (joined (take l.line-index l.lines))) (2 ^ 64 - 1)
