use Rattle.std.proofs.Common.{◌≡◌, ◌++◌, length, take}
use Rattle.std.specs.Prelude.{codes}
use Rattle.std.specs.Int.{to_be_bytes, w32}
use Rattle.gm_block.specs.Parts.{rows_bytes}
use Rattle.gm_block.proofs.block.write_block.Given as goal

abbrev pub invariant-loop-row : goal.invariant-loop-row
invariant-loop-row l =
    l.text ≡ codes "GMBK0001"
    ++ (to_be_bytes w32 (length l.rows) ++ rows_bytes (take l.row-index l.rows))
