use Rattle.std.proofs.Common.{◌+◌, arith}
use Rattle.gm_program.specs.Question.{plan_lines}
use Rattle.gm_program.proofs.Parts.{served_at, lines_next}
use Rattle.gm_program.proofs.execute.explain.plan_lines.Goals as goal

pub push_part-requires-clause-served : goal.push_part-requires-clause-served
push_part-requires-clause-served c =
    served_at c.args.of.now c.args.parts.now c.parts.part-index c.part-item.result c.requires.served
    c.parts-test.true c.part-item.is

pub parts-preserved : goal.parts-preserved
parts-preserved c = record {
  place = omega (arith, c.parts.invariant.place);
  lines = lines_next c.args.of.now c.args.target c.args.parts.now c.parts.part-index
      (c.parts.part_place + 1) c.part-item.result c.parts.lines.items c.push_part.new.lines.items _
      c.parts-test.true c.part-item.is (omega (arith, c.parts.invariant.place))
      c.in_ok-push_part.ensures c.parts.invariant.lines;
}
