use Rattle.std.proofs.Common.{◌≡◌, map, drop}
use Rattle.std.specs.Char.{to_ascii_lowercase}
use Rattle.gm_ecql.specs.Keyword.{first_named}
use Rattle.gm_ecql.proofs.keyword.named.Given as goal

abbrev pub invariant-keywords : goal.invariant-keywords
invariant-keywords l =
    first_named (map to_ascii_lowercase l.word) (drop l.keyword-index l.keywords)
    ≡ first_named (map to_ascii_lowercase l.word) l.keywords
