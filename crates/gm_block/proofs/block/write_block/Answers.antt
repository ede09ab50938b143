use Rattle.std.proofs.Common.{◌≡◌, ◌∙◌, ◌++◌, ◌<◌, length, take, get_or, sym, ap, arith}
use Rattle.std.specs.Prelude.{codes}
use Rattle.std.specs.Int.{to_be_bytes, w32}
use Rattle.gm_block.specs.Parts.{part_bytes, rows_bytes}
use Rattle.gm_block.proofs.Spellings.{rows_bytes-more, laid}
use Rattle.gm_block.proofs.block.write_block.Goals as goal

pub loop-row-preserved : goal.loop-row-preserved
loop-row-preserved c =
    let rows = c.args.rows.now in
    let row = c.row-item.result in
    let same : c.as_slice-row-items.result.now ≡ rows = c.as_slice-row-items.ensures in
    let inside : c.loop-row.row-index < length rows =
    omega (arith, c.loop-row-test.true, ap length same) in
    let is : row ≡ get_or rows c.loop-row.row-index row =
    c.row-item.is ∙ ap (λ all. get_or all c.loop-row.row-index row) same in
    let body = rows_bytes (take c.loop-row.row-index rows) in
    c.in_ok-put_part-2.ensures
    ∙ ap (λ text. text ++ part_bytes c.as_slice-in-loop-row.result.now)
    (c.in_ok-put_part.ensures
    ∙ ap (λ text. text ++ part_bytes c.as_slice.result.now) c.loop-row.invariant)
    ∙ laid (codes "GMBK0001") (to_be_bytes w32 (length rows)) body
    (part_bytes c.as_slice.result.now) (part_bytes c.as_slice-in-loop-row.result.now)
    ∙ ap (λ key. codes "GMBK0001"
    ++ (to_be_bytes w32 (length rows)
    ++ (body ++ (part_bytes key ++ part_bytes c.as_slice-in-loop-row.result.now))))
    c.as_slice.ensures
    ∙ ap (λ bytes. codes "GMBK0001"
    ++ (to_be_bytes w32 (length rows) ++ (body ++ (part_bytes row.key ++ part_bytes bytes))))
    c.as_slice-in-loop-row.ensures
    ∙ ap (λ all. codes "GMBK0001" ++ (to_be_bytes w32 (length rows) ++ all))
    (sym (rows_bytes-more rows c.loop-row.row-index row inside is))
