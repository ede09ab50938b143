use Rattle.std.proofs.Common.{◌≡◌, ◌++◌, drop}
use Rattle.std.specs.String.{string_bytes}
use Rattle.gm_ecql.specs.Token.{seen_all}
use Rattle.gm_ecql.specs.Geometry.{text_behind, text_of}
use Rattle.gm_ecql.proofs.geometry.text_of.Given as goal

abbrev pub invariant-tokens : goal.invariant-tokens
invariant-tokens l =
    string_bytes l.text ++ text_behind l.behind_number (seen_all (drop l.spaced-index l.piece))
    ≡ text_of (seen_all l.piece)
