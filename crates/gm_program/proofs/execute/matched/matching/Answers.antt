use Rattle.std.proofs.Common.{◌≡◌, map, subst}
use Rattle.gm_base.specs.Counter.{capped_sum}
use Rattle.gm_engine_rows.specs.Rows.{rows_of}
use Rattle.gm_script.specs.Order.{asked_by}
use Rattle.gm_strategy.specs.Choice.{chosen_of}
use Rattle.gm_program.specs.declared.execute.plan.Planned.{Planned}
use Rattle.gm_program.specs.Collecting.{Collects}
use Rattle.gm_program.specs.Found.{tests_of}
use Rattle.gm_program.specs.Plan.{IsPlanned}
use Rattle.gm_program.specs.Question.{rows_examined}
use Rattle.gm_program.proofs.Exchanging.{answer_found}
use Rattle.gm_program.proofs.execute.matched.matching.Goals as goal

pub returns-in_ok-features-in-Parts : goal.returns-in_ok-features-in-Parts
returns-in_ok-features-in-Parts g c = λ s own.
    let a = asked_by c.args.ask.now in
    let t = c.args.of.now in
    let planned = subst (λ (p : Planned). IsPlanned t a p) c.in-Parts.is c.in_ok-code.ensures in
    let read = c.in_ok-read-in-Parts.read in
    let plan_is = c.as_slice.ensures in
    let collects =
    subst (λ ps. Collects s t.number (tests_of (map chosen_of ps)) read.found.values.entries)
    plan_is (c.in_ok-read-in-Parts.ensures.found s own) in
    let examined =
    subst (λ ps. (read.examined
    ≡ rows_examined t c.in-Parts.target (rows_of s) (map chosen_of ps))
    × (g.B.Tally.Counter.number c.read_plan.new.tally
    ≡ capped_sum (g.B.Tally.Counter.number c.args.tally.now) read.examined)) plan_is
    (c.in_ok-read-in-Parts.ensures.examined s own) in
    answer_found c.parts_find_all.ensures s a t c.in-Parts.plan c.in-Parts.target
    read.found.values.entries c.in_ok-features-in-Parts.features read.examined
    (g.B.Tally.Counter.number c.args.tally.now) (g.B.Tally.Counter.number c.read_plan.new.tally)
    (g.B.Sorted.rows c.args.table.now) own c.requires.numbered planned collects
    c.in_ok-features-in-Parts.ensures examined
