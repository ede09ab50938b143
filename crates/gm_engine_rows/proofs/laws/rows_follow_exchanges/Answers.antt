use Rattle.gm_engine_rows.proofs.Exchanges.{exchanges_follow, exchanges_count}
use Rattle.gm_engine_rows.proofs.laws.rows_follow_exchanges.Goals as goal

pub returns-clause-rows : goal.returns-clause-rows
returns-clause-rows c =
    exchanges_follow c.keys_tell_features_apart.ensures c.rows_of_a_map.ensures.at

pub returns-clause-counted : goal.returns-clause-counted
returns-clause-counted c =
    exchanges_count c.keys_tell_features_apart.ensures c.rows_of_a_map.ensures.at
