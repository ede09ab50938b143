use Rattle.std.proofs.Common.{◌≡◌, ◌++◌, length, map}
use Rattle.std.specs.List.{AllByRecursion}
use Rattle.gm_table.specs.Sorted.{IsRising}
use Rattle.gm_block.specs.Parts.{rows_bytes, IsShort}
use Rattle.gm_block.specs.Block.{pair_of}
use Rattle.gm_block.proofs.block.read_rows.Given as goal

abbrev pub invariant-rows : goal.invariant-rows
invariant-rows l = record {
  count : length l.rows.items ≡ l.counter;
  rising : IsRising (map pair_of l.rows.items);
  short : AllByRecursion IsShort l.rows.items;
  spelled : l.fn.bytes ≡ rows_bytes l.rows.items ++ l.rest;
}
