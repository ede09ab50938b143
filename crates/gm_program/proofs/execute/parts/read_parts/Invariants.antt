use Rattle.std.proofs.Common.{◌≡◌, take, map}
use Rattle.gm_base.specs.Counter.{capped_sum}
use Rattle.gm_engine_rows.specs.State.{State}
use Rattle.gm_engine_rows.specs.Rows.{rows_of}
use Rattle.gm_strategy.specs.Choice.{chosen_of}
use Rattle.gm_program.specs.Collecting.{Collects}
use Rattle.gm_program.specs.Found.{tests_of}
use Rattle.gm_program.specs.Question.{rows_examined}
use Rattle.gm_program.specs.Store.{IsTypeOf}
use Rattle.gm_program.proofs.execute.parts.read_parts.Given as goal

abbrev pub invariant-parts : goal.invariant-parts
invariant-parts g l = record {
  found : (s : State) → IsTypeOf s l.of (g.B.Sorted.rows l.table)
      → Collects s l.of.number (tests_of (map chosen_of (take l.part-index l.parts)))
      l.found.values.entries;
  tally : (s : State) → IsTypeOf s l.of (g.B.Sorted.rows l.table)
      → g.B.Tally.Counter.number l.tally
      ≡ capped_sum (g.B.Tally.Counter.number l.fn.tally)
      (rows_examined l.of l.target (rows_of s) (map chosen_of (take l.part-index l.parts)));
}
