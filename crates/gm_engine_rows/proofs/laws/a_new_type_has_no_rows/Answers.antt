use Rattle.gm_engine_rows.proofs.Changes.{no_new_rows, with_type_is_state}
use Rattle.gm_engine_rows.proofs.laws.a_new_type_has_no_rows.Goals as goal

pub returns-clause-rows : goal.returns-clause-rows
returns-clause-rows c = no_new_rows

pub returns-clause-state : goal.returns-clause-state
returns-clause-state c = with_type_is_state
