use Rattle.std.proofs.Common.{◌≡◌, length}
use Rattle.std.specs.Prelude.{All, slice_range}
use Rattle.gm_base.specs.Counter.{capped_sum}
use Rattle.gm_base.specs.Tally.{tally_number}
use Rattle.gm_table.specs.Cursor.{IsAt}
use Rattle.gm_table.specs.Spans.{rows_in}
use Rattle.gm_table.specs.Visit.{Handed}
use Rattle.gm_table.proofs.map_table.MapTableSorted.scan_spans.Given as goal

abbrev pub invariant-loop-i : goal.invariant-loop-i
invariant-loop-i g l = record {
  at : IsAt l.cursor l.self.map.entries;
  handed : Handed g.V.Visit.takes l.fn.visit
      (rows_in (slice_range l.spans l.fn.part.start l.i) l.self.map.entries) l.visit;
  tally : tally_number l.tally
      ≡ capped_sum (tally_number l.fn.tally)
      (length (rows_in (slice_range l.spans l.fn.part.start l.i) l.self.map.entries));
  admits : All (λ row. g.V.Visit.admits l.visit row.0 row.1)
      (rows_in (slice_range l.spans l.fn.part.start l.fn.part.end) l.self.map.entries);
}
