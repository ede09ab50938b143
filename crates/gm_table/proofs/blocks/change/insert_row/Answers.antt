use Rattle.std.proofs.Common.{◌≡◌, List, [], ◌∷◌, ◌++◌, subst, sym, ap, ◌∙◌}
use Rattle.std.specs.List.{insert}
use Rattle.gm_base.proofs.Options.{on_ok}
use Rattle.gm_table.specs.declared.blocks.block.Block.{Block}
use Rattle.gm_table.specs.Blocks.{pair_of, rows_at, rows_until}
use Rattle.gm_table.proofs.BlockChanges.{both_sides, end_behind, on_err, set_more, set_same}
use Rattle.gm_table.proofs.blocks.change.insert_row.Goals as goal

pub returns-then-begins_block-clause-ok : goal.returns-then-begins_block-clause-ok
returns-then-begins_block-clause-ok c =
    let old = c.args.list.now.items in
    let n = c.args.at.block in
    let row = c.args.at.row in
    let none : rows_at n row old ≡ [] =
    subst (λ (blocks : List Block). rows_at n row blocks ≡ []) c.deref.ensures.value
    (c.begins_block.ensures.end c.if-begins_block.true) in
    on_ok c.push_block.result _ _ (λ is. is ∙ end_behind old n row c.args.row none)
    c.push_block.ensures.ok

pub returns-clause-ok : goal.returns-clause-ok
returns-clause-ok c =
    let old = c.args.list.now.items in
    let blocks = c.make_room.new.list.items in
    let n = c.in_ok-roomy.roomy.block in
    let row = c.in_ok-roomy.roomy.row in
    let d : Block = c.index_mut.result.now in
    let put = c.args.row in
    let roomy = c.in_ok-roomy.ensures in
    on_ok c.insert.result _ _ (λ is.
    set_more blocks n row c.insert.new.self d put roomy.room.within
    (subst (λ (block : Block). c.insert.new.self.rows ≡ insert block.rows row put)
    c.index_mut.ensures.value is)
    ∙ ap (λ some. some ++ pair_of put ∷ rows_at n row blocks) roomy.until
    ∙ ap (λ some. rows_until c.args.at.block c.args.at.row old ++ pair_of put ∷ some) roomy.from)
    c.insert.ensures.ok

pub returns-clause-err : goal.returns-clause-err
returns-clause-err c =
    let old = c.args.list.now.items in
    let blocks = c.make_room.new.list.items in
    let n = c.in_ok-roomy.roomy.block in
    let row = c.in_ok-roomy.roomy.row in
    let d : Block = c.index_mut.result.now in
    let roomy = c.in_ok-roomy.ensures in
    on_err c.insert.result _ _ (λ is.
    set_same blocks n c.insert.new.self d roomy.room.within
    (subst (λ (block : Block). c.insert.new.self.rows ≡ block.rows) c.index_mut.ensures.value is)
    ∙ both_sides n row blocks
    ∙ ap (λ some. some ++ rows_at n row blocks) roomy.until
    ∙ ap (λ some. rows_until c.args.at.block c.args.at.row old ++ some) roomy.from
    ∙ sym (both_sides c.args.at.block c.args.at.row old)) c.insert.ensures.err
