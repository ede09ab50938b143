use Rattle.std.proofs.Common.{◌≡◌, length, sym, subst}
use Rattle.std.specs.Prelude.{All, OnOk}
use Rattle.gm_base.specs.Counter.{capped_sum}
use Rattle.gm_table.specs.Visit.{Handed}
use Rattle.gm_scan.proofs.Reading.{rows_all, stopped_few}
use Rattle.gm_scan.proofs.scan.read.Goals as goal

pub scan_spans-requires-clause-admits : goal.scan_spans-requires-clause-admits
scan_spans-requires-clause-admits g c =
    subst (λ rows. All (λ row. g.V.Visit.admits c.args.visit.now row.0 row.1) rows)
    (sym (rows_all c.args.ranges.now c.len.result (g.S.Sorted.rows c.args.table.now) c.len.ensures))
    c.requires.admits

pub returns-clause-handed : goal.returns-clause-handed
returns-clause-handed g c =
    subst (λ rows. OnOk c.scan_spans.result
    (Handed g.V.Visit.takes c.args.visit.now rows c.scan_spans.new.visit))
    (rows_all c.args.ranges.now c.len.result (g.S.Sorted.rows c.args.table.now) c.len.ensures)
    c.scan_spans.ensures.handed

pub returns-clause-tally : goal.returns-clause-tally
returns-clause-tally g c =
    subst (λ rows. OnOk c.scan_spans.result
    (g.S.Tally.Counter.number c.scan_spans.new.tally
    ≡ capped_sum (g.S.Tally.Counter.number c.args.tally.now) (length rows)))
    (rows_all c.args.ranges.now c.len.result (g.S.Sorted.rows c.args.table.now) c.len.ensures)
    c.scan_spans.ensures.tally

pub returns-clause-stopped : goal.returns-clause-stopped
returns-clause-stopped g c =
    stopped_few g.V.Visit.takes c.args.visit.now _ _ c.scan_spans.new.visit c.scan_spans.result
    (λ handed. g.S.Tally.Counter.number c.scan_spans.new.tally
    ≡ capped_sum (g.S.Tally.Counter.number c.args.tally.now) handed)
    (rows_all c.args.ranges.now c.len.result (g.S.Sorted.rows c.args.table.now) c.len.ensures)
    c.scan_spans.ensures.stopped
