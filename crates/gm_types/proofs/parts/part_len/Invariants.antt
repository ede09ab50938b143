use Rattle.std.proofs.Common.{◌≡◌, ◌+◌, false, drop}
use Rattle.gm_types.specs.Parts.{part_len}
use Rattle.gm_types.proofs.parts.part_len.Given as goal

abbrev pub invariant-loop-byte_place : goal.invariant-loop-byte_place
invariant-loop-byte_place l =
    part_len l.mark false l.text ≡ l.byte_place + part_len l.mark l.quoted
    (drop l.byte_place l.text)
