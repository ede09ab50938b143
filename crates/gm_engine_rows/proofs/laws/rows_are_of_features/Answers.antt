use Rattle.gm_engine_rows.specs.Rows.{row_map, rows_of}
use Rattle.gm_engine_rows.proofs.RowLaws.{stands_out, stands_in}
use Rattle.gm_engine_rows.proofs.laws.rows_are_of_features.Goals as goal

pub returns-clause-rising : goal.returns-clause-rising
unfolding rows_of
returns-clause-rising c = λ s. c.rows_of_a_map.ensures.rising (row_map s)

pub returns-clause-found : goal.returns-clause-found
returns-clause-found c = stands_out c.rows_of_a_map.ensures.at

pub returns-clause-all : goal.returns-clause-all
returns-clause-all c = stands_in c.keys_tell_features_apart.ensures c.rows_of_a_map.ensures.at
