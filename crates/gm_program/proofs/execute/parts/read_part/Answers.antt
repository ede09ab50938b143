use Rattle.std.proofs.Common.{◌∙◌, ap, sym, subst}
use Rattle.gm_base.specs.Counter.{capped_sum}
use Rattle.gm_filter.specs.Tree.{tree}
use Rattle.gm_program.specs.Found.{Finds}
use Rattle.gm_program.proofs.Bound.{if_ok}
use Rattle.gm_program.proofs.Planned.{on_ok}
use Rattle.gm_program.proofs.execute.parts.read_part.Goals as goal

pub scan_one-requires-clause-features : goal.scan_one-requires-clause-features
scan_one-requires-clause-features g c κs within =
    (c.in_ok-spans.ensures c.requires.typed.0 (g.B.Sorted.rows c.args.table.now)
    c.requires.typed.1).of_type

pub returns-clause-found : goal.returns-clause-found
returns-clause-found g c = λ s own.
    let read = c.in_ok-spans.ensures s (g.B.Sorted.rows c.args.table.now) own in
    if_ok c.scan_one.result
    (λ fs are. subst (Finds s c.args.of.now.number (tree c.args.part.now.filter)) (sym are)
    read.finds) (c.scan_one.ensures.found read.features read.held)

pub returns-clause-tally : goal.returns-clause-tally
returns-clause-tally g c = λ s own.
    let read = c.in_ok-spans.ensures s (g.B.Sorted.rows c.args.table.now) own in
    on_ok c.scan_one.result c.scan_one.ensures.tally
    (λ rose. rose ∙ ap (capped_sum (g.B.Tally.Counter.number c.args.tally.now)) read.examined)
