use Rattle.gm_engine_rows.proofs.Changes.{keeps_state, same_types, here, elsewhere}
use Rattle.gm_engine_rows.proofs.laws.changes_keep_the_state.Goals as goal

pub returns-clause-state : goal.returns-clause-state
returns-clause-state c = keeps_state

pub returns-clause-types : goal.returns-clause-types
returns-clause-types c = λ s n id new. same_types n id new s

pub returns-clause-here : goal.returns-clause-here
returns-clause-here c = λ s n t id new at. here n id new s t at

pub returns-clause-elsewhere : goal.returns-clause-elsewhere
returns-clause-elsewhere c = λ s m n i id new apart. elsewhere m n i id new s apart
