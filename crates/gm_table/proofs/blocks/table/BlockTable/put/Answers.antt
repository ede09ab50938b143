use Rattle.std.proofs.Common.{◌∷◌, ◌++◌, suc, List, sym, ap, subst, ◌∙◌, arith}
use Rattle.gm_table.specs.declared.row.Row.{Row}
use Rattle.gm_table.specs.declared.blocks.block.Block.{Block}
use Rattle.gm_table.specs.Blocks.{IsGap, IsRowAt, lists_of, pair_of, rows_at, rows_of, rows_until}
use Rattle.gm_table.proofs.BlockChanges.{both_sides}
use Rattle.gm_table.proofs.BlockKeys.{Added, Changed, had_there}
use Rattle.gm_table.proofs.BlockTables.{table_added, table_changed}
use Rattle.gm_table.proofs.blocks.table.BlockTable.put.Goals as goal

-- a row of the key was there
there : (c : goal.After-replace_row)
    → IsRowAt c.args.put.now.key c.in-Ok.at.block c.in-Ok.at.row c.args.self.now.list.items
there c = subst (λ (xs : List Block). IsRowAt c.args.put.now.key c.in-Ok.at.block c.in-Ok.at.row xs)
    c.deref.ensures.value c.in-Ok.ensures.there

changed : (c : goal.After-replace_row)
    → Changed c.args.put.now.key c.args.put.now.bytes
    (rows_of (lists_of c.args.self.now.list.items))
    (rows_of (lists_of c.replace_row.new.list.items))
changed c =
    let old = c.args.self.now.list.items in
    let key = c.args.put.now.key in
    let n = c.in-Ok.at.block in
    let row = c.in-Ok.at.row in
    table_changed key c.replace_row.result c.args.put.now.bytes old
    c.replace_row.new.list.items n row
    (c.replace_row.ensures.rows key (there c)
    ∙ ap (λ bytes. rows_until n row old ++ (key, bytes) ∷ rows_at n (suc row) old)
    c.in_ok-bytes-in-Ok.ensures)
    (c.replace_row.ensures.had key (there c)) c.args.self.now.rising

pub invariant_of-self : goal.invariant_of-self
invariant_of-self c =
    record {
      each = c.replace_row.ensures.each;
      rising = (changed c).rising;
      counted = c.args.self.now.counted ∙ sym (changed c).size;
    }

pub returns-in_ok-bytes-in-Ok-clause-ok : goal.returns-in_ok-bytes-in-Ok-clause-ok
returns-in_ok-bytes-in-Ok-clause-ok c = (changed c.before).at

pub returns-in_ok-bytes-in-Ok-clause-had : goal.returns-in_ok-bytes-in-Ok-clause-had
returns-in_ok-bytes-in-Ok-clause-had c =
    let old = c.args.self.now.list.items in
    let key = c.args.put.now.key in
    let n = c.in-Ok.at.block in
    let row = c.in-Ok.at.row in
    sym (had_there key c.replace_row.result (rows_of (lists_of old)) (rows_until n row old)
    (rows_at n (suc row) old) (rows_at n row old) (both_sides n row old)
    (c.replace_row.ensures.had key (there c.before)) c.args.self.now.rising)

-- none was there
added : (c : goal.In_ok-insert_row-in-Err)
    → Added c.args.put.now.key c.args.put.now.bytes (rows_of (lists_of c.args.self.now.list.items))
    (rows_of (lists_of c.insert_row.new.list.items))
added c =
    let old = c.args.self.now.list.items in
    let n = c.in-Err.at.block in
    let row = c.in-Err.at.row in
    let key = c.args.put.now.key in
    let gap : IsGap key (rows_until n row old) (rows_at n row old) =
    subst (λ (xs : List Block). IsGap key (rows_until n row xs) (rows_at n row xs))
    c.deref.ensures.value c.in-Err.ensures.gap in
    table_added key c.args.put.now.bytes old c.insert_row.new.list.items n row
    (c.in_ok-insert_row-in-Err.ensures.ok
    ∙ ap (λ (it : Row). rows_until n row old ++ pair_of it ∷ rows_at n row old)
    c.in_ok-row-in-Err.ensures) gap c.args.self.now.rising

pub invariant_of-self-in-Err : goal.invariant_of-self-in-Err
invariant_of-self-in-Err c =
    record {
      each = c.insert_row.ensures.each;
      rising = (added c).rising;
      counted = omega (arith, (added c).size, c.args.self.now.counted);
    }

pub returns-in_ok-insert_row-in-Err-clause-ok : goal.returns-in_ok-insert_row-in-Err-clause-ok
returns-in_ok-insert_row-in-Err-clause-ok c = (added c.before).at

pub returns-in_ok-insert_row-in-Err-clause-had : goal.returns-in_ok-insert_row-in-Err-clause-had
returns-in_ok-insert_row-in-Err-clause-had c = sym (added c.before).had
