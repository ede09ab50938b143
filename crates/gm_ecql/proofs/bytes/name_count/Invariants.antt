use Rattle.std.proofs.Common.{◌≡◌, ◌+◌, drop}
use Rattle.std.specs.List.{prefix_len}
use Rattle.gm_ecql.specs.Token.{is_no_double}
use Rattle.gm_ecql.proofs.bytes.name_count.Given as goal

abbrev pub invariant-bytes : goal.invariant-bytes
invariant-bytes l =
    prefix_len is_no_double l.bytes ≡ l.count + prefix_len is_no_double (drop l.count l.bytes)
