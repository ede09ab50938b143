use Rattle.std.proofs.Common.{◌≡◌, ◌++◌, drop, map, option_map}
use Rattle.gm_ecql.specs.Judging.{literals_of}
use Rattle.gm_ecql.specs.Test.{constant_seen}
use Rattle.gm_ecql.proofs.judging.literals_of.Given as goal

abbrev pub invariant-constants : goal.invariant-constants
invariant-constants l =
    option_map (λ ls. l.literals ++ ls)
    (literals_of l.date (map constant_seen (drop l.constant-index l.constants)))
    ≡ literals_of l.date (map constant_seen l.constants)
