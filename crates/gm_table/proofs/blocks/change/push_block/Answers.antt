use Rattle.std.proofs.Common.{List, ap, ◌∙◌}
use Rattle.gm_table.specs.declared.blocks.block.Block.{Block}
use Rattle.gm_table.specs.Blocks.{lists_of, rows_of}
use Rattle.gm_table.proofs.BlockChanges.{one_behind}
use Rattle.gm_table.proofs.blocks.change.push_block.Goals as goal

pub returns-clause-ok : goal.returns-clause-ok
returns-clause-ok c =
    ap (λ (blocks : List Block). rows_of (lists_of blocks)) c.in_ok-push-2.ensures.items
    ∙ one_behind c.args.list.now.items c.of.result c.new-rows.result.items c.args.row
    (c.of.ensures.rows ∙ c.in_ok-push.ensures.items) c.new-rows.ensures.items
