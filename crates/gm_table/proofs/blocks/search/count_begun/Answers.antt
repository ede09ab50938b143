use Rattle.std.proofs.Common.{◌≡◌, ◌+◌, ◌-◌, ◌/◌, true, false, sym, ap, ◌∙◌, arith}
use Rattle.std.proofs.lemmas.List.{get_or_default}
use Rattle.gm_table.proofs.BlockPlaces.{is_begun, begun_before, not_begun_after}
use Rattle.gm_table.proofs.blocks.search.count_begun.Goals as goal

pub halves-preserved-then-begins_by : goal.halves-preserved-then-begins_by
halves-preserved-then-begins_by c =
    let key = c.args.key.now in
    let blocks = c.args.blocks.now in
    let middle = c.halves.low + (c.halves.high - c.halves.low) / 2 in
    let block = c.index-blocks-middle.result in
    let here : is_begun key block ≡ true = sym c.begins_by.ensures ∙ c.if-begins_by.true in
    record {
      order = omega (arith, c.halves-test.true);
      bound = c.halves.invariant.bound;
      begun = λ k d low up. begun_before key blocks c.requires.each c.requires.rising k middle d
          (omega arith) (omega (arith, c.halves-test.true, c.halves.invariant.bound))
          (sym (ap (is_begun key)
          (c.index-blocks-middle.is
          ∙ get_or_default blocks middle block d
          (omega (arith, c.halves-test.true, c.halves.invariant.bound)))) ∙ here);
      others = c.halves.invariant.others;
    }

pub halves-preserved : goal.halves-preserved
halves-preserved c =
    let key = c.args.key.now in
    let blocks = c.args.blocks.now in
    let middle = c.halves.low + (c.halves.high - c.halves.low) / 2 in
    let block = c.index-blocks-middle.result in
    let here : is_begun key block ≡ false = sym c.begins_by.ensures ∙ c.if-begins_by.false in
    record {
      order = omega arith;
      bound = omega (arith, c.halves-test.true, c.halves.invariant.bound);
      begun = c.halves.invariant.begun;
      others = λ k d low up. not_begun_after key blocks c.requires.each c.requires.rising
          middle k d low up
          (sym (ap (is_begun key)
          (c.index-blocks-middle.is
          ∙ get_or_default blocks middle block d
          (omega (arith, c.halves-test.true, c.halves.invariant.bound)))) ∙ here);
    }
