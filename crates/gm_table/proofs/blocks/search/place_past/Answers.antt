use Rattle.std.proofs.Common.{◌≡◌, ◌-◌, ◌≤◌, length, get_or, sym, subst, arith}
use Rattle.gm_table.specs.Blocks.{pairs_of}
use Rattle.gm_table.specs.Sorted.{IsRising}
use Rattle.gm_table.proofs.BlockPlaces.{IsPlaceOf, Parts, first_place, later_place, block_rises}
use Rattle.gm_table.proofs.blocks.search.place_past.Goals as goal

first : (c : goal.Then-begun-eq0) → IsPlaceOf c.args.key.now c.args.blocks.now 0 0
first c = first_place c.args.key.now c.args.blocks.now c.requires.each
    (λ k d low up. c.count_begun-begun.ensures.others k d (omega (arith, c.if-begun-eq0.true)) up)

pub returns-then-begun-eq0-clause-place : goal.returns-then-begun-eq0-clause-place
returns-then-begun-eq0-clause-place c = (first c).place

pub returns-then-begun-eq0-clause-before : goal.returns-then-begun-eq0-clause-before
returns-then-begun-eq0-clause-before c = (first c).before

pub returns-then-begun-eq0-clause-from : goal.returns-then-begun-eq0-clause-from
returns-then-begun-eq0-clause-from c = (first c).from

pub place_in-requires : goal.place_in-requires
place_in-requires c =
    let block = c.index-blocks-block.result in
    let same : c.as_slice.result.now
    ≡ (get_or c.args.blocks.now (c.count_begun-begun.result - 1) block).rows =
    c.as_slice.ensures in
    subst (λ rows. IsRising (pairs_of rows)) (sym same)
    (block_rises c.args.blocks.now c.requires.rising (c.count_begun-begun.result - 1) block
    (omega (arith, c.if-begun-eq0.false, c.count_begun-begun.ensures.bound)))

later : (c : goal.After-place_in)
    → IsPlaceOf c.args.key.now c.args.blocks.now (c.count_begun-begun.result - 1) c.place_in.result
later c =
    let key = c.args.key.now in
    let blocks = c.args.blocks.now in
    let n = c.count_begun-begun.result - 1 in
    let block = c.index-blocks-block.result in
    let same : c.as_slice.result.now ≡ (get_or blocks n block).rows = c.as_slice.ensures in
    later_place key blocks c.requires.each c.requires.rising n c.place_in.result block
    (omega (arith, c.if-begun-eq0.false, c.count_begun-begun.ensures.bound))
    (c.count_begun-begun.ensures.begun n block (omega arith) (omega (arith, c.if-begun-eq0.false)))
    (λ k d low up. c.count_begun-begun.ensures.others k d (omega (arith, c.if-begun-eq0.false)) up)
    (subst (λ rows. c.place_in.result ≤ length rows) same c.place_in.ensures.bound)
    (subst (λ rows. Parts key rows c.place_in.result) same
    (record { before = c.place_in.ensures.before; from = c.place_in.ensures.from }))

pub returns-clause-place : goal.returns-clause-place
returns-clause-place c = (later c).place

pub returns-clause-before : goal.returns-clause-before
returns-clause-before c = (later c).before

pub returns-clause-from : goal.returns-clause-from
returns-clause-from c = (later c).from
