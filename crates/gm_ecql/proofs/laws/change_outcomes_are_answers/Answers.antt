use Rattle.gm_ecql.proofs.Changes.{change_found, change_only, change_fault}
use Rattle.gm_ecql.proofs.laws.change_outcomes_are_answers.Goals as goal

pub returns-clause-found : goal.returns-clause-found
returns-clause-found c = change_found

pub returns-clause-only : goal.returns-clause-only
returns-clause-only c = change_only

pub returns-clause-faults : goal.returns-clause-faults
returns-clause-faults c = change_fault
