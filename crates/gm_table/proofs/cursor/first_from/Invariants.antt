use Rattle.std.proofs.Common.{◌≡◌, length}
use Rattle.gm_table.specs.Cursor.{pending, rows_after}
use Rattle.gm_table.proofs.cursor.first_from.Given as goal

abbrev pub invariant-rows : goal.invariant-rows
invariant-rows l = rows_after l.key (pending l.next l.rest) ≡ rows_after l.key l.fn.rest

abbrev pub decreases-rows : goal.decreases-rows
decreases-rows l = length (pending l.next l.rest)
