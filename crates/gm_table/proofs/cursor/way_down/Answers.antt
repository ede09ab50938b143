use Rattle.std.proofs.Common.{◌≡◌, true, ap, ◌∙◌, arith}
use Rattle.std.proofs.lemmas.Grind.{common_steps}
use Rattle.std.specs.Ordering.{nat_cmp, is_le}
use Rattle.std.specs.Cmp.{tied_itself}
use Rattle.std.specs.Cmp.Lexicographic.{slice_cmp, nat_list_cmp_total}
use Rattle.gm_table.specs.Cursor.{rows_from, rows_after}
use Rattle.gm_table.proofs.Places.{after-is, after-from}
use Rattle.gm_table.proofs.cursor.way_down.Goals as goal

pub returns-in-Ok : goal.returns-in-Ok
returns-in-Ok c =
    let low = c.args.low.now in
    let same : is_le (slice_cmp nat_cmp low low) ≡ true =
    ap is_le (tied_itself nat_list_cmp_total low) in
    let key : c.append.new.self ≡ low = grind (arith, common_steps) in
    let at : c.from_key.result ≡ rows_from low c.args.map.now.entries =
    c.from_key.ensures ∙ ap (λ k. rows_from k c.args.map.now.entries) key in
    ap (rows_after low) at ∙ after-is low low c.args.map.now.entries same c.requires

pub returns-in-Err : goal.returns-in-Err
returns-in-Err c =
    ap (rows_after c.args.low.now) c.from_first.ensures
    ∙ after-from c.args.low.now c.args.map.now.entries c.requires
