use Rattle.std.proofs.Common.{◌≡◌, length, take}
use Rattle.std.specs.Prelude.{All}
use Rattle.gm_base.specs.Counter.{capped_sum}
use Rattle.gm_base.specs.Tally.{tally_number}
use Rattle.gm_table.specs.Blocks.{pairs_of}
use Rattle.gm_table.specs.Visit.{Handed}
use Rattle.gm_table.proofs.blocks.walk.hand_out.Given as goal

abbrev pub invariant-loop-row : goal.invariant-loop-row
invariant-loop-row g l = record {
  handed : Handed g.V.Visit.takes l.fn.visit (pairs_of (take l.row-index l.rows)) l.visit;
  tally : tally_number l.tally
      ≡ capped_sum (tally_number l.fn.tally) (length (take l.row-index l.rows));
  admits : All (λ row. g.V.Visit.admits l.visit row.0 row.1) (pairs_of l.rows);
}
