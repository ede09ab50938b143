use Rattle.std.proofs.Common.{◌≡◌, ◌+◌, suc, subst, sym, ap, ◌∙◌, arith}
use Rattle.gm_table.specs.Blocks.{IsPlace, rows_at, rows_until}
use Rattle.gm_table.proofs.BlockPlaces.{block_at}
use Rattle.gm_table.proofs.BlockChanges.{place_next, until_next, at_next, at_end}
use Rattle.gm_table.proofs.blocks.find.ahead.Goals as goal

pub returns-then-next-blocks-clause-end : goal.returns-then-next-blocks-clause-end
returns-then-next-blocks-clause-end c =
    λ d within end. at_end c.args.blocks.now c.args.at.block c.args.at.row d within
    (omega arith) end

pub returns-clause-place : goal.returns-clause-place
returns-clause-place c =
    let next : c.args.at.block + 1 ≡ suc c.args.at.block = omega arith in
    subst (λ k. IsPlace k 0 c.args.blocks.now) (sym next)
    (place_next c.args.blocks.now c.args.at.block (omega (arith, c.if-next-blocks.false)))

pub returns-clause-until : goal.returns-clause-until
returns-clause-until c =
    let next : c.args.at.block + 1 ≡ suc c.args.at.block = omega arith in
    ap (λ k. rows_until k 0 c.args.blocks.now) next
    ∙ until_next c.args.blocks.now c.args.at.block c.args.at.row c.index-blocks-at.result
    (omega (arith, c.if-next-blocks.false)) (omega (arith, c.if-at-len.false, c.len.ensures))

pub returns-clause-from : goal.returns-clause-from
returns-clause-from c =
    let next : c.args.at.block + 1 ≡ suc c.args.at.block = omega arith in
    ap (λ k. rows_at k 0 c.args.blocks.now) next
    ∙ at_next c.args.blocks.now c.args.at.block c.args.at.row c.index-blocks-at.result
    (omega (arith, c.if-next-blocks.false)) (omega (arith, c.if-at-len.false, c.len.ensures))

pub returns-clause-end : goal.returns-clause-end
returns-clause-end c =
    λ d within none. absurd
    (omega (
      arith,
      (block_at c.args.blocks.now c.requires.each (c.args.at.block + 1) d within).sized.some,
    ))
