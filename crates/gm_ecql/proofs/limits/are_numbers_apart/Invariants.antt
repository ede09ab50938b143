use Rattle.std.proofs.Common.{◌≡◌, map, drop}
use Rattle.gm_ecql.specs.Token.{seen_spaced}
use Rattle.gm_ecql.specs.Limits.{are_apart_behind, are_numbers_apart}
use Rattle.gm_ecql.proofs.limits.are_numbers_apart.Given as goal

abbrev pub invariant-tokens : goal.invariant-tokens
invariant-tokens l =
    are_apart_behind l.behind_number (map seen_spaced (drop l.spaced-index l.tokens))
    ≡ are_numbers_apart (map seen_spaced l.tokens)
