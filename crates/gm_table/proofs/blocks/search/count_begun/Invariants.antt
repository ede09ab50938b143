use Rattle.std.proofs.Common.{◌-◌, ◌≡◌, ◌≤◌, length, true, false}
use Rattle.std.specs.List.{AllWithin}
use Rattle.gm_table.proofs.BlockPlaces.{is_begun}
use Rattle.gm_table.proofs.blocks.search.count_begun.Given as goal

abbrev pub invariant-halves : goal.invariant-halves
invariant-halves l = record {
  order : l.low ≤ l.high;
  bound : l.high ≤ length l.blocks;
  begun : AllWithin (λ block. is_begun l.key block ≡ true) l.blocks 0 l.low;
  others : AllWithin (λ block. is_begun l.key block ≡ false) l.blocks l.high (length l.blocks);
}

abbrev pub decreases-halves : goal.decreases-halves
decreases-halves l = l.high - l.low
