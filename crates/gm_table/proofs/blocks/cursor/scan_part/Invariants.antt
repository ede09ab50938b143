use Rattle.std.proofs.Common.{◌≡◌, length}
use Rattle.std.specs.Prelude.{All, slice_range}
use Rattle.gm_base.specs.Counter.{capped_sum}
use Rattle.gm_base.specs.Tally.{tally_number}
use Rattle.gm_table.specs.Blocks.{IsAtKey, lists_of, rows_of}
use Rattle.gm_table.specs.Spans.{rows_in}
use Rattle.gm_table.specs.Visit.{Handed}
use Rattle.gm_table.proofs.blocks.cursor.scan_part.Given as goal

abbrev pub invariant-loop-i : goal.invariant-loop-i
invariant-loop-i g l = record {
  at : IsAtKey l.blocks l.cursor.from l.cursor.place.block l.cursor.place.row;
  handed : Handed g.V.Visit.takes l.fn.visit
      (rows_in (slice_range l.spans l.fn.part.start l.i) (rows_of (lists_of l.blocks))) l.visit;
  tally : tally_number l.tally
      ≡ capped_sum (tally_number l.fn.tally)
      (length (rows_in (slice_range l.spans l.fn.part.start l.i) (rows_of (lists_of l.blocks))));
  admits : All (λ row. g.V.Visit.admits l.visit row.0 row.1)
      (rows_in (slice_range l.spans l.fn.part.start l.fn.part.end) (rows_of (lists_of l.blocks)));
}
