use Rattle.std.proofs.Common.{◌≡◌, ◌+◌, drop}
use Rattle.std.specs.List.{prefix_len}
use Rattle.gm_ecql.specs.Token.{is_word_byte}
use Rattle.gm_ecql.proofs.bytes.word_count.Given as goal

abbrev pub invariant-bytes : goal.invariant-bytes
invariant-bytes l =
    prefix_len is_word_byte l.bytes ≡ l.count + prefix_len is_word_byte (drop l.count l.bytes)
