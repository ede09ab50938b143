use Rattle.std.proofs.Common.{◌≡◌, ◌∙◌, map, length, sym, ap, arith}
use Rattle.gm_engine_rows.specs.Rows.{rows_of}
use Rattle.gm_scan.specs.declared.found_rows.Keeping.TheVariants as keeping
use Rattle.gm_strategy.specs.Choice.{chosen_of}
use Rattle.gm_program.specs.Found.{tests_of}
use Rattle.gm_program.specs.Question.{rows_examined}
use Rattle.gm_program.proofs.Bound.{if_ok}
use Rattle.gm_program.proofs.Kept.{kept_bound, kept_counts}
use Rattle.gm_program.proofs.Parts.{alone, examined_alone, served_at}
use Rattle.gm_program.proofs.execute.counted.count_plan.Goals as goal

pub count_alone-requires-clause-served : goal.count_alone-requires-clause-served
count_alone-requires-clause-served g c κs within =
    served_at c.args.of.now c.args.parts.now 0 c.index-parts-0.result c.requires.served
    (omega arith) c.index-parts-0.is

pub returns-then-parts-eq1-clause-examined : goal.returns-then-parts-eq1-clause-examined
returns-then-parts-eq1-clause-examined g c = λ s own.
    let t = c.args.of.now in
    let parts = c.args.parts.now in
    let part = c.index-parts-0.result in
    let one : length parts ≡ 1 = omega arith in
    if_ok c.count_alone.result (λ counted said. (
      said.0 ∙ examined_alone t c.args.target (rows_of s) part
          ∙ ap (λ ps. rows_examined t c.args.target (rows_of s) (map chosen_of ps))
          (sym (alone parts part one c.index-parts-0.is)),
      said.1,
    ))
    (c.count_alone.ensures.examined s own)

pub count_in_order-requires : goal.count_in_order-requires
count_in_order-requires g c =
    let s = c.requires.typed.0 in
    kept_bound s c.args.of.now.number (tests_of (map chosen_of c.args.parts.now)) keeping.Ids
    c.in_ok-read.read.rows (c.in_ok-read.ensures.found s c.requires.typed.1)

pub returns-clause-matched : goal.returns-clause-matched
returns-clause-matched g c = λ s own.
    kept_counts s c.args.of.now.number (tests_of (map chosen_of c.args.parts.now)) keeping.Ids
    c.in_ok-read.read.rows c.in_ok-matched.matched (c.in_ok-read.ensures.found s own)
    c.in_ok-matched.ensures
