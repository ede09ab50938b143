use Rattle.std.proofs.Common.{◌≡◌, ◌+◌, ◌++◌, ◌<◌, List, ℕ, length, sym, ap, subst, ◌∙◌, arith}
use Rattle.std.proofs.Common.{length-append}
use Rattle.std.specs.Prelude.{All, slice_range}
use Rattle.std.proofs.lemmas.Result.{err_from_is_err_and}
use Rattle.std.proofs.lemmas.List.Elements.{All-weaker}
use Rattle.gm_base.specs.Spans.{Span}
use Rattle.gm_table.specs.Blocks.{lists_of, rows_of}
use Rattle.gm_table.specs.Sorted.{between}
use Rattle.gm_table.specs.Spans.{rows_in}
use Rattle.gm_table.specs.Visit.{Handed}
use Rattle.gm_table.proofs.Spans.{rows_in-part_more, rows_in-part_from, later_in, Handed-both}
use Rattle.gm_table.proofs.Spans.{All-middle, admits_after, stops_after, capped_more}
use Rattle.gm_table.proofs.blocks.cursor.scan_part.Goals as goal

-- the rows of the span are among those of all
pub scan-requires-clause-admits : goal.scan-requires-clause-admits
scan-requires-clause-admits g c =
    let rows = rows_of (lists_of c.args.blocks.now) in
    let span : Span = (c.get-in-loop-i.result.0.now, c.get-in-loop-i.result.1.now) in
    let few : c.loop-i.i < length c.args.spans.now =
    omega (arith, c.requires.part.1, c.loop-i-test.true) in
    let done = rows_in (slice_range c.args.spans.now c.args.part.start c.loop-i.i) rows in
    let later = later_in c.args.spans.now c.args.part.start c.loop-i.i c.args.part.end rows in
    let P = λ (row : List ℕ × List ℕ). g.V.Visit.admits c.loop-i.visit row.0 row.1 in
    All-middle P done (between span.0 span.1 rows) later
    (rows_in (slice_range c.args.spans.now c.args.part.start c.args.part.end) rows)
    (rows_in-part_from c.args.spans.now span c.args.part.start c.loop-i.i c.args.part.end rows
    c.loop-i.auto.i c.loop-i-test.true c.requires.part.1 c.get-in-loop-i.ensures)
    c.loop-i.invariant.admits

pub loop-i-preserved : goal.loop-i-preserved
loop-i-preserved g c =
    let rows = rows_of (lists_of c.args.blocks.now) in
    let span : Span = (c.get-in-loop-i.result.0.now, c.get-in-loop-i.result.1.now) in
    let few : c.loop-i.i < length c.args.spans.now =
    omega (arith, c.requires.part.1, c.loop-i-test.true) in
    let here = between span.0 span.1 rows in
    let done = rows_in (slice_range c.args.spans.now c.args.part.start c.loop-i.i) rows in
    let whole = rows_in (slice_range c.args.spans.now c.args.part.start c.args.part.end) rows in
    let later = later_in c.args.spans.now c.args.part.start c.loop-i.i c.args.part.end rows in
    let more : rows_in (slice_range c.args.spans.now c.args.part.start (c.loop-i.i + 1)) rows
    ≡ done ++ here =
    rows_in-part_more c.args.spans.now span c.args.part.start c.loop-i.i rows c.loop-i.auto.i few
    c.get-in-loop-i.ensures in
    let P = λ (row : List ℕ × List ℕ). g.V.Visit.admits c.loop-i.visit row.0 row.1 in
    let Q = λ (row : List ℕ × List ℕ). g.V.Visit.admits c.scan.new.visit row.0 row.1 in
    let each : All P here = All-middle P done here later whole
    (rows_in-part_from c.args.spans.now span c.args.part.start c.loop-i.i c.args.part.end rows
    c.loop-i.auto.i c.loop-i-test.true c.requires.part.1 c.get-in-loop-i.ensures)
    c.loop-i.invariant.admits in
    record {
      at = c.in_ok-scan.ensures.at;
      handed = subst
          (λ read. Handed g.V.Visit.takes c.args.visit.now read c.scan.new.visit) (sym more)
          (Handed-both g.V.Visit.takes c.args.visit.now c.loop-i.visit c.scan.new.visit done here
          c.loop-i.invariant.handed c.in_ok-scan.ensures.handed);
      tally = capped_more _ _ _ (length done) (length here) _ c.loop-i.invariant.tally
          c.in_ok-scan.ensures.tally (ap length more ∙ length-append done here);
      admits = All-weaker P Q
          (λ row may. admits_after g.V.Visit.admits g.V.Visit.takes g.met.V.Visit.keeps
          c.loop-i.visit c.scan.new.visit here c.in_ok-scan.ensures.handed each row.0 row.1 may)
          whole c.loop-i.invariant.admits;
    }

-- the visitor had no memory
pub returns-in_err-scan-clause-stopped : goal.returns-in_err-scan-clause-stopped
returns-in_err-scan-clause-stopped g c =
    let rows = rows_of (lists_of c.args.blocks.now) in
    let span : Span = (c.get-in-loop-i.result.0.now, c.get-in-loop-i.result.1.now) in
    let here = between span.0 span.1 rows in
    let done = rows_in (slice_range c.args.spans.now c.args.part.start c.loop-i.i) rows in
    let whole = rows_in (slice_range c.args.spans.now c.args.part.start c.args.part.end) rows in
    let later = later_in c.args.spans.now c.args.part.start c.loop-i.i c.args.part.end rows in
    let p = err_from_is_err_and c.from_residual.result c.from_residual.ensures.1 in
    let stopped = c.in_err-scan.ensures.stopped in
    rw (p.1, p.2) (
      length done + stopped.0,
      stops_after g.V.Visit.takes c.args.visit.now c.loop-i.visit c.scan.new.visit done here later
          whole c.in_err-scan.field-0.0 stopped.0
          (rows_in-part_from c.args.spans.now span c.args.part.start c.loop-i.i c.args.part.end rows
          c.loop-i.auto.i c.loop-i-test.true c.requires.part.1 c.get-in-loop-i.ensures)
          c.loop-i.invariant.handed stopped.1,
      capped_more _ _ _ (length done) stopped.0 _ c.loop-i.invariant.tally stopped.2 (omega arith),
    )
