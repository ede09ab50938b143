use Rattle.std.proofs.Common.{◌≡◌}
use Rattle.gm_engine_rows.specs.Change.{rows_with}
use Rattle.gm_engine_rows.proofs.change.rows_at.Given as goal

abbrev pub invariant-keys : goal.invariant-keys
invariant-keys l = l.rows.items ≡ rows_with l.yielded l.bytes
