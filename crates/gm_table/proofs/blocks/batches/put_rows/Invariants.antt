use Rattle.std.proofs.Common.{◌≡◌, ℕ, List, length, take}
use Rattle.std.specs.Vec.{vec_capacity}
use Rattle.gm_table.specs.Sorted.{at_key}
use Rattle.gm_table.specs.Batch.{put_at}
use Rattle.gm_table.specs.Blocks.{lists_of, rows_of}
use Rattle.gm_table.specs.Changes.{undone_at}
use Rattle.gm_table.proofs.blocks.batches.put_rows.Given as goal

abbrev pub invariant-loop-put : goal.invariant-loop-put
invariant-loop-put l = record {
  put : (key : List ℕ)
      → at_key key (rows_of (lists_of l.table.list.items))
      ≡ put_at key (take l.put-index l.puts)
      (at_key key (rows_of (lists_of l.fn.table.list.items)));
  undone : (key : List ℕ)
      → undone_at key l.puts l.olds.items (at_key key (rows_of (lists_of l.table.list.items)))
      ≡ at_key key (rows_of (lists_of l.fn.table.list.items));
  count : length l.olds.items ≡ l.put-index;
  room : vec_capacity l.olds ≡ length l.puts;
}
