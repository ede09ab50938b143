use Rattle.std.proofs.Common.{◌≡◌, take, ℕ, List}
use Rattle.std.specs.Prelude.{None, if◌then◌else◌}
use Rattle.gm_table.specs.Sorted.{IsRising, at_key}
use Rattle.gm_table.specs.Batch.{has_key}
use Rattle.gm_table.proofs.changes.remove_keys.Given as goal

abbrev pub invariant-loop-key : goal.invariant-loop-key
invariant-loop-key l = record {
  removed : (key : List ℕ)
      → at_key key l.map.entries
      ≡ (if has_key key (take l.key-index l.keys) then None else at_key key l.fn.map.entries);
  rising : IsRising l.map.entries;
}
