use Rattle.std.proofs.Common.{arith}
use Rattle.gm_table.proofs.BlockChanges.{at_end, at_none}
use Rattle.gm_table.proofs.blocks.change.begins_block.Goals as goal

pub returns-then-at-blocks-clause-end : goal.returns-then-at-blocks-clause-end
returns-then-at-blocks-clause-end c =
    λ _. at_none c.args.blocks.now c.args.at.block c.args.at.row
    (omega (arith, c.if-at-blocks.true))

pub returns-then-at-count-clause-end : goal.returns-then-at-count-clause-end
returns-then-at-count-clause-end c = λ _.
    at_end c.args.blocks.now c.args.at.block c.args.at.row c.index-blocks-at.result
    (omega (arith, c.if-at-blocks.false))
    (omega (arith, c.if-at-blocks.false, c.if-blocks-at-gt1.false))
    (omega (arith, c.if-at-count.true, c.len-count.ensures))
