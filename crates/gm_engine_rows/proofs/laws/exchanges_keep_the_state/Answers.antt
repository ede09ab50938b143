use Rattle.gm_engine_rows.proofs.Exchanges.{exchanges_keep, exchanged_types, exchanged_here}
use Rattle.gm_engine_rows.proofs.Exchanges.{exchanged_elsewhere}
use Rattle.gm_engine_rows.proofs.laws.exchanges_keep_the_state.Goals as goal

pub returns-clause-state : goal.returns-clause-state
returns-clause-state c = exchanges_keep

pub returns-clause-types : goal.returns-clause-types
returns-clause-types c = λ s n exchanges. exchanged_types n exchanges s

pub returns-clause-here : goal.returns-clause-here
returns-clause-here c = λ s n t id exchanges typed. exchanged_here n id exchanges s t typed

pub returns-clause-elsewhere : goal.returns-clause-elsewhere
returns-clause-elsewhere c =
    λ s m n id exchanges apart. exchanged_elsewhere m n id exchanges s apart
