use Rattle.std.proofs.Common.{◌≡◌, ◌++◌, ℕ, List, encode_utf8_all, string_bytes}
use Rattle.gm_ecql.specs.Token.{doubled}
use Rattle.gm_ecql.proofs.printer.append_doubled.Given as goal

abbrev pub invariant-characters : goal.invariant-characters
invariant-characters l = (more : List ℕ)
    → string_bytes l.fn.out ++ encode_utf8_all (doubled (l.yielded ++ more))
    ≡ string_bytes l.out ++ encode_utf8_all (doubled more)
