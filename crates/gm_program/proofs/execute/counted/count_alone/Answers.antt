use Rattle.std.proofs.Common.{◌≡◌, ◌∙◌, sym, ap, arith}
use Rattle.gm_base.specs.Counter.{capped_sum}
use Rattle.gm_engine_rows.specs.Rows.{rows_of}
use Rattle.gm_strategy.specs.Choice.{chosen_of}
use Rattle.gm_program.specs.Question.{rows_read}
use Rattle.gm_program.proofs.Planned.{few_read}
use Rattle.gm_program.proofs.execute.counted.count_alone.Goals as goal

pub returns-clause-matched : goal.returns-clause-matched
returns-clause-matched g c = λ s own. c.in_ok-matched.ensures.matched s own

pub returns-clause-examined : goal.returns-clause-examined
returns-clause-examined g c = λ s own.
    let total = rows_read c.args.of.now c.args.target (rows_of s) (chosen_of c.args.part.now) in
    let number : g.B.Tally.Counter.number c.count_part-count.new.tally ≡ total =
    omega (
      arith,
      c.in_ok-matched.ensures.tally s own,
      c.part-counter.ensures,
      few_read c.args.of.now c.args.target (rows_of s) (chosen_of c.args.part.now)
          own.limits.rows,
    ) in (
      c.rows-examined.ensures ∙ number,
      c.join.ensures
          ∙ ap (capped_sum (g.B.Tally.Counter.number c.args.tally.now))
          (sym c.rows-examined.ensures),
    )
