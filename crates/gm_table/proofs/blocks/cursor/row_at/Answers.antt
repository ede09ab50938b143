use Rattle.std.proofs.Common.{◌≡◌, ◌+◌, ◌<◌, ◌≤◌, length, get_or, subst, arith}
use Rattle.gm_table.proofs.BlockPlaces.{block_at}
use Rattle.gm_table.proofs.BlockWalks.{none_left, row_there, row_next, no_row}
use Rattle.gm_table.proofs.blocks.cursor.row_at.Goals as goal

pub returns-then-at-blocks : goal.returns-then-at-blocks
returns-then-at-blocks c =
    none_left c.args.blocks.now c.args.at.block c.args.at.row c.requires.place
    (omega (arith, c.if-at-blocks.true))

pub returns-then-at-rows : goal.returns-then-at-rows
returns-then-at-rows c =
    let row = c.args.at.row in
    let r = c.index-rows-at.result in
    row_there c.args.blocks.now c.args.at.block row c.index-blocks-at.result r
    (omega (arith, c.if-at-blocks.false))
    (subst (λ xs. row < length xs) c.as_slice-rows.ensures c.if-at-rows.true)
    (subst (λ xs. r ≡ get_or xs row r) c.as_slice-rows.ensures c.index-rows-at.is)

pub returns-then-next-blocks : goal.returns-then-next-blocks
returns-then-next-blocks c =
    let row = c.args.at.row in
    no_row c.args.blocks.now c.args.at.block row c.index-blocks-at.result
    (omega (arith, c.if-at-blocks.false)) (omega (arith, c.if-next-blocks.true))
    (subst (λ xs. length xs ≤ row) c.as_slice-rows.ensures c.if-at-rows.false)

pub returns : goal.returns
returns c =
    let row = c.args.at.row in
    let n = c.args.at.block in
    let next = c.index-blocks-next.result in
    let r = c.index-as_slice-0.result in
    let within : n + 1 < length c.args.blocks.now = omega (arith, c.if-next-blocks.false) in
    row_next c.args.blocks.now n (n + 1) row c.index-blocks-at.result next r (omega arith) within
    (subst (λ xs. length xs ≤ row) c.as_slice-rows.ensures c.if-at-rows.false)
    (omega (arith, (block_at c.args.blocks.now c.requires.each (n + 1) next within).sized.some))
    (subst (λ xs. r ≡ get_or xs 0 r) c.as_slice.ensures c.index-as_slice-0.is)
