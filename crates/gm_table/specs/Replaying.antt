-- What batches make of a table's rows, one after the other.
use Rattle.std.specs.Prelude.{ℕ, List, [], ◌∷◌, Option}
use Rattle.gm_table.specs.declared.batch.Batch.{Batch}
use Rattle.gm_table.specs.Batch.{applied_at}

-- what a key has after these batches, where it had `before`
abbrev pub replayed_at : List ℕ → List Batch → Option (List ℕ) → Option (List ℕ)
replayed_at key [] before = before
replayed_at key (batch ∷ batches) before =
    replayed_at key batches (applied_at key batch.removes batch.puts before)
