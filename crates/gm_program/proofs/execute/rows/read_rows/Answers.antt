use Rattle.std.proofs.Common.{◌≡◌, ◌∙◌, map, sym, ap, arith}
use Rattle.gm_base.specs.Counter.{capped_sum}
use Rattle.gm_engine_rows.specs.Rows.{rows_of}
use Rattle.gm_strategy.specs.Choice.{chosen_of}
use Rattle.gm_program.specs.Question.{rows_examined}
use Rattle.gm_program.proofs.Changing.{length-map}
use Rattle.gm_program.proofs.Planned.{few_examined}
use Rattle.gm_program.proofs.execute.rows.read_rows.Goals as goal

pub returns-clause-found : goal.returns-clause-found
returns-clause-found g c = λ s own. c.in_ok-read.ensures.found s own

pub returns-clause-examined : goal.returns-clause-examined
returns-clause-examined g c = λ s own.
    let t = c.args.of.now in
    let parts = map chosen_of c.args.parts.now in
    let total = rows_examined t c.args.target (rows_of s) parts in
    let number : g.B.Tally.Counter.number c.read_each-read.new.tally ≡ total =
    omega (
      arith,
      c.in_ok-read.ensures.tally s own,
      c.part-counter.ensures,
      few_examined t c.args.target (rows_of s) parts own.limits.rows,
      length-map chosen_of c.args.parts.now,
      c.requires.few,
    ) in (
      c.rows-examined.ensures ∙ number,
      c.join.ensures
          ∙ ap (capped_sum (g.B.Tally.Counter.number c.args.tally.now))
          (sym c.rows-examined.ensures),
    )
