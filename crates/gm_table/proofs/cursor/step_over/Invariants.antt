use Rattle.std.proofs.Common.{◌≡◌}
use Rattle.gm_table.specs.Cursor.{pending, rows_after}
use Rattle.gm_table.proofs.cursor.step_over.Given as goal

abbrev pub invariant-steps : goal.invariant-steps
invariant-steps l =
    rows_after l.key (pending l.next l.rest) ≡ rows_after l.key (pending l.fn.place l.fn.rest)
