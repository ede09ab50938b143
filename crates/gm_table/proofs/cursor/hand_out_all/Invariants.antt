use Rattle.std.proofs.Common.{length}
use Rattle.std.specs.Prelude.{All}
use Rattle.gm_base.specs.Tally.{tally_number}
use Rattle.gm_table.specs.Cursor.{pending, rows_below}
use Rattle.gm_table.proofs.Walks.{Walk}
use Rattle.gm_table.proofs.cursor.hand_out_all.Given as goal

abbrev pub invariant-rows : goal.invariant-rows
invariant-rows g l = record {
  walk : Walk g.V.Visit.takes l.fn.visit l.visit l.high (pending l.fn.place l.fn.rest)
      (pending l.next l.rest) (tally_number l.fn.tally) (tally_number l.tally);
  admits : All (λ row. g.V.Visit.admits l.visit row.0 row.1)
      (rows_below l.high (pending l.fn.place l.fn.rest));
}

abbrev pub decreases-rows : goal.decreases-rows
decreases-rows g l = length (pending l.next l.rest)
