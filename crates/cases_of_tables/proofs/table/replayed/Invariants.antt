use Rattle.std.specs.Prelude.{All, IsTrue, ◌++◌, map}
use Rattle.gm_table.specs.Batch.{are_distinct}
use Rattle.gm_table.specs.Row.{key_of}
use Rattle.cases_of_tables.proofs.table.replayed.Given as goal

abbrev pub invariant-loop-i : goal.invariant-loop-i
invariant-loop-i g l =
    All (λ batch. IsTrue (are_distinct (batch.removes ++ map key_of batch.puts))) l.batches
