use Rattle.std.proofs.Common.{◌≡◌, ◌≤◌, length, subst, ap, ◌∙◌, get_or, arith}
use Rattle.std.specs.List.{remove}
use Rattle.gm_table.specs.declared.blocks.block.Block.{Block}
use Rattle.gm_table.specs.Blocks.{lists_of, rows_of}
use Rattle.gm_table.proofs.BlockChanges.{gone, set_fewer}
use Rattle.gm_table.proofs.blocks.change.remove_row.Goals as goal

pub returns-then-len-le-FEWEST-clause-rows : goal.returns-then-len-le-FEWEST-clause-rows
returns-then-len-le-FEWEST-clause-rows c =
    let blocks = c.args.list.now.items in
    let n = c.args.at.block in
    let d : Block = c.index.result.now in
    let few : length (get_or blocks n d).rows ≤ 1 =
    subst (λ (block : Block). length block.rows ≤ 1) c.index.ensures
    (omega (arith, c.len.ensures, c.if-len-le-FEWEST.true)) in
    let one : length (get_or blocks n d).rows ≡ 1 = omega (arith, c.requires.there d) in
    ap (λ xs. rows_of (lists_of xs)) c.remove-emptied.ensures.items
    ∙ gone blocks n c.args.at.row d c.requires.within one (c.requires.there d)

pub returns-clause-rows : goal.returns-clause-rows
returns-clause-rows c =
    let blocks = c.args.list.now.items in
    let n = c.args.at.block in
    let row = c.args.at.row in
    let d : Block = c.index_mut.result.now in
    set_fewer blocks n row c.remove.new.self d c.requires.within
    (subst (λ (block : Block). c.remove.new.self.rows ≡ remove block.rows row)
    c.index_mut.ensures.value c.remove.ensures.rows)
