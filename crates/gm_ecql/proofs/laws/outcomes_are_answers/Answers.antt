use Rattle.gm_ecql.proofs.Filters.{filter_found, filter_only, filter_fault}
use Rattle.gm_ecql.proofs.laws.outcomes_are_answers.Goals as goal

pub returns-clause-found : goal.returns-clause-found
returns-clause-found c = filter_found

pub returns-clause-only : goal.returns-clause-only
returns-clause-only c = filter_only

pub returns-clause-faults : goal.returns-clause-faults
returns-clause-faults c = filter_fault
