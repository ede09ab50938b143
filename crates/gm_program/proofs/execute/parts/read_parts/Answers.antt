use Rattle.std.proofs.Common.{◌∙◌, take, map, sym, ap, subst, arith}
use Rattle.std.proofs.lemmas.List.{take_all}
use Rattle.gm_base.specs.Counter.{capped_sum}
use Rattle.gm_engine_rows.specs.Rows.{rows_of}
use Rattle.gm_filter.specs.Tree.{tree}
use Rattle.gm_strategy.specs.Choice.{chosen_of}
use Rattle.gm_program.specs.Collecting.{Collects}
use Rattle.gm_program.specs.Found.{tests_of}
use Rattle.gm_program.specs.Question.{rows_examined}
use Rattle.gm_program.proofs.Collected.{collects_none, collects_more}
use Rattle.gm_program.proofs.Planned.{are_named}
use Rattle.gm_program.proofs.Parts.{served_at, tests_more, examined_next}
use Rattle.gm_program.proofs.execute.parts.read_parts.Goals as goal

pub parts-init : goal.parts-init
parts-init g c = record {
  found = λ s own. collects_none s c.args.of.now.number c.new-found.result.values.entries
      c.new-found.ensures;
  tally = λ s own. omega (
    arith,
    (g.met.B.Tally.Counter g.world.𝓛 g.world.𝓜 g.world.𝓡
        ((λ s x. x), (λ x. x), (λ x. x), λ x. x)).fits c.args.tally.now,
  );
}

pub read_part-requires-clause-served : goal.read_part-requires-clause-served
read_part-requires-clause-served g c κs within =
    served_at c.args.of.now c.args.parts.now c.parts.part-index c.part-item.result c.requires.served
    c.parts-test.true c.part-item.is

pub parts-preserved : goal.parts-preserved
parts-preserved g c =
    let t = c.args.of.now in
    let parts = c.args.parts.now in
    let i = c.parts.part-index in
    let part = c.part-item.result in
    record {
      found = λ s own. subst (λ tests. Collects s t.number tests c.take.new.self.values.entries)
          (sym (tests_more parts i part c.parts-test.true c.part-item.is))
          (collects_more s t.number (tests_of (map chosen_of (take i parts))) (tree part.filter)
          c.in_ok-features.features c.parts.found.values.entries c.take.new.self.values.entries
          (are_named s t own.state own.typed) (c.in_ok-features.ensures.found s own)
          (c.parts.invariant.found s own) c.in_ok-take.ensures);
      tally = λ s own. omega (
        arith,
        c.in_ok-features.ensures.tally s own,
        c.parts.invariant.tally s own,
        examined_next t c.args.target (rows_of s) parts i part c.parts-test.true
            c.part-item.is,
      );
    }

pub returns-clause-found : goal.returns-clause-found
returns-clause-found g c = λ s own.
    subst (λ ps. Collects s c.args.of.now.number (tests_of (map chosen_of ps))
    c.parts.found.values.entries) (take_all c.parts.part-index c.args.parts.now (omega arith))
    (c.parts.invariant.found s own)

pub returns-clause-tally : goal.returns-clause-tally
returns-clause-tally g c = λ s own.
    c.parts.invariant.tally s own
    ∙ ap (λ ps. capped_sum (g.B.Tally.Counter.number c.args.tally.now)
    (rows_examined c.args.of.now c.args.target (rows_of s) (map chosen_of ps)))
    (take_all c.parts.part-index c.args.parts.now (omega arith))
