use Rattle.std.proofs.Common.{◌≡◌, take, ℕ, List}
use Rattle.std.specs.Prelude.{None, if◌then◌else◌}
use Rattle.gm_table.specs.Sorted.{at_key}
use Rattle.gm_table.specs.Batch.{has_key}
use Rattle.gm_table.specs.Blocks.{lists_of, rows_of}
use Rattle.gm_table.proofs.blocks.batches.remove_keys.Given as goal

abbrev pub invariant-loop-key : goal.invariant-loop-key
invariant-loop-key l =
    (key : List ℕ)
    → at_key key (rows_of (lists_of l.table.list.items))
    ≡ (if has_key key (take l.key-index l.keys) then None
    else at_key key (rows_of (lists_of l.fn.table.list.items)))
