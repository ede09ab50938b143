use Rattle.std.proofs.Common.{◌≡◌, drop, true}
use Rattle.gm_ecql.specs.Scanner.{number_end}
use Rattle.gm_ecql.proofs.numeric.number_end.Given as goal

abbrev pub invariant-bytes : goal.invariant-bytes
invariant-bytes l = number_end 0 true l.bytes ≡ number_end l.index l.sign (drop l.index l.bytes)
