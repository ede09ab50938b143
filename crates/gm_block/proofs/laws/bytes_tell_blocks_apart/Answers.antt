use Rattle.std.proofs.Common.{◌≡◌, List, length, arith}
use Rattle.gm_table.specs.declared.row.Row.{Row}
use Rattle.gm_block.specs.Block.{IsBlock, block_bytes}
use Rattle.gm_block.specs.Parts.{rows_bytes}
use Rattle.gm_block.proofs.Spellings.{same_number, same_rows}
use Rattle.gm_block.proofs.laws.bytes_tell_blocks_apart.Goals as goal

same_blocks : (one other : List Row) → IsBlock one → IsBlock other
    → block_bytes one ≡ block_bytes other → one ≡ other
same_blocks one other is are whole =
    let number = same_number (length one) (length other) (rows_bytes one) (rows_bytes other)
    (omega (arith, is.few)) (omega (arith, are.few)) cc in
    same_rows one other is.short are.short number.0 number.1

pub returns : goal.returns
returns c = same_blocks
