use Rattle.std.proofs.Common.{◌-◌, length}
use Rattle.std.specs.Prelude.{All}
use Rattle.gm_base.specs.Tally.{tally_number}
use Rattle.gm_table.specs.Blocks.{IsPlace, rows_at}
use Rattle.gm_table.specs.Cursor.{rows_below}
use Rattle.gm_table.proofs.Walks.{Walk}
use Rattle.gm_table.proofs.blocks.walk.hand_out_until.Given as goal

abbrev pub invariant-walk : goal.invariant-walk
invariant-walk g l = record {
  place : IsPlace l.at.block l.at.row l.blocks;
  walk : Walk g.V.Visit.takes l.fn.visit l.visit l.high
      (rows_at l.fn.from.block l.fn.from.row l.blocks) (rows_at l.at.block l.at.row l.blocks)
      (tally_number l.fn.tally) (tally_number l.tally);
  admits : All (λ row. g.V.Visit.admits l.visit row.0 row.1)
      (rows_below l.high (rows_at l.fn.from.block l.fn.from.row l.blocks));
}

abbrev pub decreases-walk : goal.decreases-walk
decreases-walk g l = length l.blocks - l.at.block
