use Rattle.std.proofs.Common.{◌≡◌, ◌+◌, drop}
use Rattle.std.specs.List.{prefix_len}
use Rattle.gm_calendar.specs.Spelling.{is_instant_byte}
use Rattle.gm_ecql.proofs.bytes.instant_count.Given as goal

abbrev pub invariant-bytes : goal.invariant-bytes
invariant-bytes l =
    prefix_len is_instant_byte l.bytes ≡ l.count + prefix_len is_instant_byte (drop l.count l.bytes)
