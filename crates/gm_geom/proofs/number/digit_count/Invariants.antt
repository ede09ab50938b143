use Rattle.std.proofs.Common.{◌≡◌, ◌+◌, drop}
use Rattle.std.specs.List.{prefix_len}
use Rattle.std.specs.Char.{is_ascii_digit}
use Rattle.gm_geom.proofs.number.digit_count.Given as goal

abbrev pub invariant-bytes : goal.invariant-bytes
invariant-bytes l =
    prefix_len is_ascii_digit l.bytes ≡ l.count + prefix_len is_ascii_digit (drop l.count l.bytes)
