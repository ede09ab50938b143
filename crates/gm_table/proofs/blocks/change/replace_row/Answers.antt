use Rattle.std.proofs.Common.{◌≡◌, [], ◌∷◌, ◌++◌, suc, subst, sym, ap, ◌∙◌, get_or}
use Rattle.std.proofs.Math.ListN.{set}
use Rattle.gm_table.specs.declared.row.Row.{Row}
use Rattle.gm_table.specs.declared.blocks.block.Block.{Block}
use Rattle.gm_table.specs.Blocks.{rows_at, rows_until}
use Rattle.gm_table.proofs.BlockChanges.{at_row, set_changed}
use Rattle.gm_table.proofs.blocks.change.replace_row.Goals as goal

pub returns-clause-rows : goal.returns-clause-rows
returns-clause-rows c = λ key there.
    let blocks = c.args.list.now.items in
    let n = c.args.at.block in
    let row = c.args.at.row in
    let d : Block = c.index_mut.result.now in
    let e : Row = record { key = []; bytes = [] } in
    let put : Row =
    record { key = (get_or (get_or blocks n d).rows row e).key; bytes = c.args.bytes } in
    set_changed blocks n row c.replace.new.self d put there.within (there.inside d)
    (subst (λ (block : Block). c.replace.new.self.rows
    ≡ set block.rows row (record { key = (get_or block.rows row e).key; bytes = c.args.bytes }))
    c.index_mut.ensures.value (c.replace.ensures.rows e))
    ∙ ap (λ k. rows_until n row blocks ++ (k, c.args.bytes) ∷ rows_at n (suc row) blocks)
    (sym (there.has d e))

pub returns-clause-had : goal.returns-clause-had
returns-clause-had c = λ key there.
    let blocks = c.args.list.now.items in
    let n = c.args.at.block in
    let row = c.args.at.row in
    let d : Block = c.index_mut.result.now in
    let e : Row = record { key = []; bytes = [] } in
    let had : c.replace.result ≡ (get_or (get_or blocks n d).rows row e).bytes =
    subst (λ (block : Block). c.replace.result ≡ (get_or block.rows row e).bytes)
    c.index_mut.ensures.value (c.replace.ensures.had e) in
    at_row blocks n row d e there.within (there.inside d)
    ∙ ap (λ k. (k, (get_or (get_or blocks n d).rows row e).bytes) ∷ rows_at n (suc row) blocks)
    (sym (there.has d e))
    ∙ ap (λ b. (key, b) ∷ rows_at n (suc row) blocks) (sym had)
