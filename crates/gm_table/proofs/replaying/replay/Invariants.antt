use Rattle.std.proofs.Common.{◌≡◌, ℕ, List, take}
use Rattle.gm_table.specs.Replaying.{replayed_at}
use Rattle.gm_table.specs.Sorted.{at_key}
use Rattle.gm_table.proofs.replaying.replay.Given as goal

abbrev pub invariant-loop-batch : goal.invariant-loop-batch
invariant-loop-batch g l =
    (key : List ℕ)
    → at_key key (g.S.Sorted.rows l.table)
    ≡ replayed_at key (take l.batch-index l.batch-items)
    (at_key key (g.S.Sorted.rows l.fn.table))
