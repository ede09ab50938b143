use Rattle.std.proofs.Common.{◌≡◌, ◌+◌, drop}
use Rattle.std.specs.List.{prefix_len}
use Rattle.gm_base.specs.Ascii.{is_blank}
use Rattle.gm_wkt.proofs.position.blank_count.Given as goal

abbrev pub invariant-bytes : goal.invariant-bytes
invariant-bytes l =
    prefix_len is_blank l.bytes ≡ l.count + prefix_len is_blank (drop l.count l.bytes)
