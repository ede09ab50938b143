use Rattle.std.proofs.Common.{length, map}
use Rattle.gm_ecql.specs.Token.{seen_spaced}
use Rattle.gm_ecql.proofs.Lists.{Keeps}
use Rattle.gm_ecql.proofs.scanner.tokens_from.Given as goal

abbrev pub invariant-tokens : goal.invariant-tokens
invariant-tokens l = Keeps l.text l.rest (map seen_spaced l.found.items)

abbrev pub decreases-tokens : goal.decreases-tokens
decreases-tokens l = length l.rest
