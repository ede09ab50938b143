use Rattle.std.proofs.Common.{List, length, ap, sym, subst}
use Rattle.std.specs.List.{AllByRecursion}
use Rattle.std.specs.List.Sorted.{IsStrictlySortedBy}
use Rattle.gm_table.specs.declared.blocks.block.Block.{Block}
use Rattle.gm_table.specs.Blocks.{IsBlock, lists_of, rows_of}
use Rattle.gm_table.specs.Sorted.{IsRising}
use Rattle.gm_table.proofs.blocks.table.BlockTable.new.Goals as goal

pub invariant_of-result : goal.invariant_of-result
unfolding IsStrictlySortedBy
invariant_of-result c = record {
  each = subst (AllByRecursion IsBlock) (sym c.new.ensures.items) tt;
  rising = subst (λ (xs : List Block). IsRising (rows_of (lists_of xs)))
      (sym c.new.ensures.items) tt;
  counted = sym (ap (λ (xs : List Block). length (rows_of (lists_of xs))) c.new.ensures.items);
}
