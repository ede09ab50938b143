use Rattle.std.proofs.Common.{◌≡◌, ◌≤◌, ℕ, List, length}
use Rattle.gm_table.specs.Sorted.{at_key}
use Rattle.gm_table.specs.Blocks.{lists_of, rows_of}
use Rattle.gm_table.specs.Changes.{undone_at}
use Rattle.gm_table.proofs.blocks.batches.take_back.Given as goal

abbrev pub invariant-loop-old : goal.invariant-loop-old
invariant-loop-old l = record {
  few : length l.olds.items ≤ length l.puts;
  undone : (key : List ℕ)
      → undone_at key l.puts l.olds.items (at_key key (rows_of (lists_of l.table.list.items)))
      ≡ undone_at key l.puts l.fn.olds.items
      (at_key key (rows_of (lists_of l.fn.table.list.items)));
}

abbrev pub decreases-loop-old : goal.decreases-loop-old
decreases-loop-old l = length l.olds.items
