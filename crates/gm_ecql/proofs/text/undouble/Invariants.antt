use Rattle.std.proofs.Common.{◌≡◌, ◌++◌, ℕ, List, false, encode_utf8_all, string_bytes}
use Rattle.gm_ecql.specs.Token.{undoubled_from}
use Rattle.gm_ecql.proofs.text.undouble.Given as goal

abbrev pub invariant-characters : goal.invariant-characters
invariant-characters l = (more : List ℕ)
    → encode_utf8_all (undoubled_from false (l.yielded ++ more))
    ≡ string_bytes l.text ++ encode_utf8_all (undoubled_from l.behind more)
