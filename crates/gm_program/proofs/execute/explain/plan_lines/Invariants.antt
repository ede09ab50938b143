use Rattle.std.proofs.Common.{◌≡◌, ◌+◌, ◌++◌, drop, map}
use Rattle.gm_strategy.specs.Choice.{chosen_of}
use Rattle.gm_program.specs.Question.{plan_lines}
use Rattle.gm_program.proofs.execute.explain.plan_lines.Given as goal

abbrev pub invariant-parts : goal.invariant-parts
invariant-parts l = record {
  place : l.part_place ≡ l.part-index;
  lines : l.lines.items
      ++ plan_lines l.of l.target (l.part-index + 1) (map chosen_of (drop l.part-index l.parts))
      ≡ plan_lines l.of l.target 1 (map chosen_of l.parts);
}
