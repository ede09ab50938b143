use Rattle.std.proofs.Common.{◌∙◌, take, map, sym, ap, subst, arith}
use Rattle.std.proofs.lemmas.List.{take_all}
use Rattle.gm_base.specs.Counter.{capped_sum}
use Rattle.gm_engine_rows.specs.Rows.{rows_of}
use Rattle.gm_filter.specs.Tree.{tree}
use Rattle.gm_strategy.specs.Choice.{chosen_of}
use Rattle.gm_program.specs.Found.{tests_of}
use Rattle.gm_program.specs.Kept.{AreKept}
use Rattle.gm_program.specs.Question.{rows_examined}
use Rattle.gm_program.proofs.Kept.{kept_none, kept_more}
use Rattle.gm_program.proofs.Planned.{are_named}
use Rattle.gm_program.proofs.Parts.{served_at, tests_more, examined_next}
use Rattle.gm_program.proofs.execute.rows.read_each.Goals as goal

pub parts-init : goal.parts-init
parts-init g c = record {
  found = λ s own. kept_none s c.args.of.now.number c.args.keeping c.args.rows.now c.requires.none;
  tally = λ s own. omega (
    arith,
    (g.met.B.Tally.Counter g.world.𝓛 g.world.𝓜 g.world.𝓡
        ((λ s x. x), (λ x. x), (λ x. x), λ x. x)).fits c.args.tally.now,
  );
}

pub read_one-requires-clause-served : goal.read_one-requires-clause-served
read_one-requires-clause-served g c κs within =
    served_at c.args.of.now c.args.parts.now c.parts.part-index c.part-item.result c.requires.served
    c.parts-test.true c.part-item.is

pub parts-preserved : goal.parts-preserved
parts-preserved g c =
    let t = c.args.of.now in
    let parts = c.args.parts.now in
    let i = c.parts.part-index in
    let part = c.part-item.result in
    let tests = tests_of (map chosen_of (take i parts)) in
    record {
      found = λ s own. subst (λ tests. AreKept s t.number tests c.args.keeping c.read_one.new.rows)
          (sym (tests_more parts i part c.parts-test.true c.part-item.is))
          (kept_more s t.number tests (tree part.filter) c.args.keeping c.parts.rows
          c.read_one.new.rows
          (are_named s t own.state own.typed) (c.in_ok-read_one.ensures.found s own)
          (c.parts.invariant.found s own));
      tally = λ s own. omega (
        arith,
        c.in_ok-read_one.ensures.tally s own,
        c.parts.invariant.tally s own,
        examined_next t c.args.target (rows_of s) parts i part c.parts-test.true
            c.part-item.is,
      );
    }

pub returns-clause-found : goal.returns-clause-found
returns-clause-found g c = λ s own.
    subst (λ ps. AreKept s c.args.of.now.number (tests_of (map chosen_of ps)) c.args.keeping
    c.parts.rows) (take_all c.parts.part-index c.args.parts.now (omega arith))
    (c.parts.invariant.found s own)

pub returns-clause-tally : goal.returns-clause-tally
returns-clause-tally g c = λ s own.
    c.parts.invariant.tally s own
    ∙ ap (λ ps. capped_sum (g.B.Tally.Counter.number c.args.tally.now)
    (rows_examined c.args.of.now c.args.target (rows_of s) (map chosen_of ps)))
    (take_all c.parts.part-index c.args.parts.now (omega arith))
