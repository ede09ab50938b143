use Rattle.std.proofs.Common.{◌≡◌, ◌-◌, ◌<◌, true, length, drop, sym, ap, subst, ◌∙◌, arith}
use Rattle.std.proofs.Common.{length-drop}
use Rattle.std.proofs.lemmas.Grind.{common_steps}
use Rattle.std.proofs.lemmas.List.{length-map}
use Rattle.std.specs.Ordering.{nat_cmp, is_le}
use Rattle.std.specs.Cmp.Lexicographic.{slice_cmp}
use Rattle.gm_table.specs.declared.row.Row.{Row}
use Rattle.gm_table.specs.Blocks.{pair_of, pairs_of}
use Rattle.gm_table.specs.Cursor.{rows_after}
use Rattle.gm_table.proofs.BlockWalks.{some_after}
use Rattle.gm_table.proofs.blocks.cursor.place_inside.Goals as goal

pub returns-clause-inside : goal.returns-clause-inside
returns-clause-inside c =
    let rows = c.args.rows.now in
    let key = c.args.key.now in
    let last = c.in_ok-last.last.now in
    let count = c.place_in.result in
    let item = c.in_ok-last.ensures.item in
    let reached : is_le (slice_cmp nat_cmp key last.key) ≡ true = grind (arith, common_steps) in
    let some : 0 < length (rows_after key (pairs_of rows)) =
    some_after key rows (length rows - 1) last (omega (arith, item.3.0))
    (subst (λ (row : Row). is_le (slice_cmp nat_cmp key row.key) ≡ true) item.1 reached) in
    let left : length (rows_after key (pairs_of rows)) ≡ length rows - count =
    sym (ap length c.place_in.ensures.from) ∙ length-map (drop count rows) pair_of
    ∙ length-drop count rows in
    omega (arith, some, left)
