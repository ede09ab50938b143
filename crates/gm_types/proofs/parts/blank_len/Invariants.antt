use Rattle.std.proofs.Common.{◌≡◌, ◌+◌, drop}
use Rattle.std.specs.List.{prefix_len}
use Rattle.gm_base.specs.Ascii.{is_blank}
use Rattle.gm_types.proofs.parts.blank_len.Given as goal

abbrev pub invariant-loop-byte_place : goal.invariant-loop-byte_place
invariant-loop-byte_place l =
    prefix_len is_blank l.text ≡ l.byte_place + prefix_len is_blank (drop l.byte_place l.text)
