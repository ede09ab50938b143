use Rattle.std.proofs.Common.{◌≡◌, ◌+◌, ◌≤◌, ◌<◌, length, drop, get_or, refl, sym, ap, subst, ◌∙◌}
use Rattle.std.proofs.Common.{arith, length-drop}
use Rattle.gm_table.specs.Blocks.{pairs_of}
use Rattle.gm_table.specs.Cursor.{rows_after}
use Rattle.gm_table.specs.Sorted.{IsRising}
use Rattle.gm_table.proofs.BlockPlaces.{block_rises, rising_drop}
use Rattle.gm_table.proofs.BlockWalks.{Ends, place_bound, ends_within}
use Rattle.gm_table.proofs.blocks.cursor.step_to.Goals.{In_ok-count}
use Rattle.gm_table.proofs.blocks.cursor.step_to.Goals as goal

pub rest_of-rest-requires : goal.rest_of-rest-requires
rest_of-rest-requires c =
    let row = c.args.at.row in
    subst (λ rows. row ≤ length rows) (sym c.as_slice.ensures)
    (place_bound c.args.blocks.now c.args.at.block row c.index-blocks-at.result c.requires.place
    (omega (arith, c.if-at-blocks.false)))

pub place_inside-requires : goal.place_inside-requires
place_inside-requires c =
    let row = c.args.at.row in
    let rows = (get_or c.args.blocks.now c.args.at.block c.index-blocks-at.result).rows in
    let rest_is : c.rest_of-rest.result.now ≡ drop row rows =
    c.rest_of-rest.ensures ∙ ap (drop row) c.as_slice.ensures in
    subst (λ xs. IsRising (pairs_of xs)) (sym rest_is)
    (rising_drop rows row
    (block_rises c.args.blocks.now c.requires.rising c.args.at.block
    c.index-blocks-at.result (omega (arith, c.if-at-blocks.false))))

ends : (c : In_ok-count)
    → Ends c.args.key.now c.args.blocks.now c.args.at.block c.args.at.row
    (c.args.at.row + c.in_ok-count.count)
    (get_or c.args.blocks.now c.args.at.block c.index-blocks-at.result).rows
ends c =
    let blocks = c.args.blocks.now in
    let key = c.args.key.now in
    let n = c.args.at.block in
    let row = c.args.at.row in
    let count = c.in_ok-count.count in
    let block = c.index-blocks-at.result in
    let rows = (get_or blocks n block).rows in
    let rest_is : c.rest_of-rest.result.now ≡ drop row rows =
    c.rest_of-rest.ensures ∙ ap (drop row) c.as_slice.ensures in
    let few : count < length (drop row rows) =
    subst (λ xs. count < length xs) rest_is c.in_ok-count.ensures.inside in
    let from : pairs_of (drop count (drop row rows)) ≡ rows_after key (pairs_of (drop row rows)) =
    subst (λ xs. pairs_of (drop count xs) ≡ rows_after key (pairs_of xs)) rest_is
    c.in_ok-count.ensures.from in
    ends_within key blocks n row count (row + count) block (omega (arith, c.if-at-blocks.false))
    refl (omega (arith, few, length-drop row rows)) from

pub returns-clause-place : goal.returns-clause-place
returns-clause-place c = (ends c.before).place

pub returns-clause-rows : goal.returns-clause-rows
returns-clause-rows c = (ends c.before).left
