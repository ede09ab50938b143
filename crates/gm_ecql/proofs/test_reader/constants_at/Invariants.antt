use Rattle.std.proofs.Common.{length, map}
use Rattle.gm_ecql.specs.Reader.{constant_at, constants_at}
use Rattle.gm_ecql.specs.Test.{constant_seen}
use Rattle.gm_ecql.specs.Token.{seen_all}
use Rattle.gm_ecql.proofs.Gathering.{Gathering}
use Rattle.gm_ecql.proofs.test_reader.constants_at.Given as goal

abbrev pub invariant-constants : goal.invariant-constants
invariant-constants l =
    Gathering constant_at (map constant_seen l.constants.items) (seen_all l.rest)
    (constants_at (seen_all l.tokens))

abbrev pub decreases-constants : goal.decreases-constants
decreases-constants l = length l.rest
