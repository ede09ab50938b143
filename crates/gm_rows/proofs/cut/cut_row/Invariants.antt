use Rattle.std.proofs.Common.{◌≡◌, ◌≤◌, [], map, drop}
use Rattle.std.specs.Prelude.{slice_range}
use Rattle.gm_rows.specs.Reader.{cut_from}
use Rattle.gm_rows.proofs.cut.cut_row.Given as goal

abbrev pub invariant-bytes : goal.invariant-bytes
invariant-bytes l = record {
  low : l.start ≤ l.index;
  same : cut_from [] [] l.row
      ≡ cut_from (map (λ f. f.now) l.fields.items) (slice_range l.row l.start l.index)
      (drop l.index l.row);
}
