use Rattle.std.proofs.Common.{◌∙◌, [], ◌∷◌, ap, sym, subst}
use Rattle.gm_base.specs.Counter.{capped_sum}
use Rattle.gm_filter.specs.Tree.{tree}
use Rattle.gm_program.specs.Collecting.{Counts}
use Rattle.gm_program.proofs.Bound.{if_ok}
use Rattle.gm_program.proofs.Planned.{on_ok}
use Rattle.gm_program.proofs.execute.counted.count_part.Goals as goal

pub count_one-requires-clause-features : goal.count_one-requires-clause-features
count_one-requires-clause-features g c κs within =
    (c.in_ok-spans.ensures c.requires.typed.0 (g.B.Sorted.rows c.args.table.now)
    c.requires.typed.1).of_type

pub count_one-requires-clause-apart : goal.count_one-requires-clause-apart
count_one-requires-clause-apart g c κs within =
    (c.in_ok-spans.ensures c.requires.typed.0 (g.B.Sorted.rows c.args.table.now)
    c.requires.typed.1).apart

pub returns-clause-matched : goal.returns-clause-matched
returns-clause-matched g c = λ s own.
    let read = c.in_ok-spans.ensures s (g.B.Sorted.rows c.args.table.now) own in
    if_ok c.count_one.result
    (λ count are. subst (Counts s c.args.of.now.number (tree c.args.part.now.filter ∷ []))
    (sym are) read.once) (c.count_one.ensures.matched read.features read.held)

pub returns-clause-tally : goal.returns-clause-tally
returns-clause-tally g c = λ s own.
    let read = c.in_ok-spans.ensures s (g.B.Sorted.rows c.args.table.now) own in
    on_ok c.count_one.result c.count_one.ensures.tally
    (λ rose. rose ∙ ap (capped_sum (g.B.Tally.Counter.number c.args.tally.now)) read.examined)
