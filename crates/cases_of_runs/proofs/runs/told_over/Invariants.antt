use Rattle.gm_program.specs.Store.{HasState}
use Rattle.cases_of_runs.proofs.runs.told_over.Given as goal

abbrev pub invariant-loop-script : goal.invariant-loop-script
invariant-loop-script g l = HasState l.store.types (g.B.Sorted.rows l.store.table)
