use Rattle.std.proofs.Common.{◌∙◌, ap}
use Rattle.gm_base.specs.Counter.{capped_sum}
use Rattle.gm_filter.specs.Tree.{tree}
use Rattle.gm_scan.specs.Held.{matching}
use Rattle.gm_program.proofs.Planned.{on_ok}
use Rattle.gm_program.proofs.execute.rows.read_one.Goals as goal

pub scan_kept-requires-clause-features : goal.scan_kept-requires-clause-features
scan_kept-requires-clause-features g c κs within =
    (c.in_ok-spans.ensures c.requires.typed.0 (g.B.Sorted.rows c.args.table.now)
    c.requires.typed.1).of_type

pub returns-clause-found : goal.returns-clause-found
returns-clause-found g c = λ s own.
    let read = c.in_ok-spans.ensures s (g.B.Sorted.rows c.args.table.now) own in
    on_ok c.scan_kept.result (c.scan_kept.ensures.found read.features read.held)
    (λ are. record {
      features = matching (tree c.args.part.now.filter) read.features;
      finds = read.finds;
      are = are;
    })

pub returns-clause-tally : goal.returns-clause-tally
returns-clause-tally g c = λ s own.
    let read = c.in_ok-spans.ensures s (g.B.Sorted.rows c.args.table.now) own in
    on_ok c.scan_kept.result c.scan_kept.ensures.tally
    (λ rose. rose ∙ ap (capped_sum (g.B.Tally.Counter.number c.args.tally.now)) read.examined)
