use Rattle.std.proofs.Common.{List, None, ap, sym, subst, ◌∙◌, arith}
use Rattle.gm_table.specs.declared.blocks.block.Block.{Block}
use Rattle.gm_table.specs.Blocks.{IsGap, IsRowAt, rows_at, rows_until}
use Rattle.gm_table.specs.Changes.{restored_at}
use Rattle.gm_table.specs.Sorted.{at_key}
use Rattle.gm_table.proofs.BlockChanges.{both_sides}
use Rattle.gm_table.proofs.BlockKeys.{removed_gap}
use Rattle.gm_table.proofs.BlockTables.{table_taken}
use Rattle.gm_table.proofs.blocks.table.BlockTable.remove.Goals as goal

pub overflow_sub-self : goal.overflow_sub-self
overflow_sub-self c =
    let old = c.args.self.now.list.items in
    let key = c.args.key.now in
    let n = c.in-Ok.at.block in
    let row = c.in-Ok.at.row in
    let there : IsRowAt key n row old =
    subst (λ (xs : List Block). IsRowAt key n row xs) c.deref.ensures.value
    c.in-Ok.ensures.there in
    let taken = table_taken key old c.remove_row.new.list.items n row there
    c.remove_row.ensures.rows c.args.self.now.rising in
    omega (arith, taken.size, c.args.self.now.counted)

pub invariant_of-self : goal.invariant_of-self
invariant_of-self c =
    let old = c.args.self.now.list.items in
    let key = c.args.key.now in
    let n = c.in-Ok.at.block in
    let row = c.in-Ok.at.row in
    let there : IsRowAt key n row old =
    subst (λ (xs : List Block). IsRowAt key n row xs) c.deref.ensures.value
    c.in-Ok.ensures.there in
    let taken = table_taken key old c.remove_row.new.list.items n row there
    c.remove_row.ensures.rows c.args.self.now.rising in
    record {
      each = c.remove_row.ensures.each;
      rising = taken.rising;
      counted = omega (arith, taken.size, c.args.self.now.counted);
    }

pub returns-in-Ok : goal.returns-in-Ok
returns-in-Ok c =
    let old = c.args.self.now.list.items in
    let key = c.args.key.now in
    let n = c.in-Ok.at.block in
    let row = c.in-Ok.at.row in
    let there : IsRowAt key n row old =
    subst (λ (xs : List Block). IsRowAt key n row xs) c.deref.ensures.value
    c.in-Ok.ensures.there in
    let taken = table_taken key old c.remove_row.new.list.items n row there
    c.remove_row.ensures.rows c.args.self.now.rising in
    taken.at

-- there is no row of the key
pub returns-in_default : goal.returns-in_default
returns-in_default c =
    let old = c.args.self.now.list.items in
    let n = c.in_default.field-0.block in
    let row = c.in_default.field-0.row in
    let key = c.args.key.now in
    let gap : IsGap key (rows_until n row old) (rows_at n row old) =
    subst (λ (xs : List Block). IsGap key (rows_until n row xs) (rows_at n row xs))
    c.deref.ensures.value c.in_default.ensures.gap in
    λ other. ap (at_key other) (both_sides n row old)
    ∙ removed_gap other key (rows_until n row old) (rows_at n row old) gap
    ∙ ap (λ rows. restored_at other key None (at_key other rows)) (sym (both_sides n row old))
