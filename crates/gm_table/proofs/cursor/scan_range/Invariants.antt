use Rattle.std.proofs.Common.{◌≡◌, ◌++◌, length, map}
use Rattle.std.specs.Prelude.{All}
use Rattle.std.specs.Map.Iter.{deref_pair}
use Rattle.gm_base.specs.Counter.{capped_sum}
use Rattle.gm_base.specs.Tally.{tally_number}
use Rattle.gm_table.specs.Sorted.{between}
use Rattle.gm_table.specs.Visit.{Handed}
use Rattle.gm_table.proofs.cursor.scan_range.Given as goal

abbrev pub invariant-loop-key : goal.invariant-loop-key
invariant-loop-key g l = record {
  rows : map deref_pair l.yielded ++ l.key-iterator ≡ between l.low l.high l.map.entries;
  handed : Handed g.V.Visit.takes l.fn.visit (map deref_pair l.yielded) l.visit;
  tally : tally_number l.tally ≡ capped_sum (tally_number l.fn.tally) (length l.yielded);
  admits : All (λ row. g.V.Visit.admits l.visit row.0 row.1) (between l.low l.high l.map.entries);
}
