use Rattle.gm_engine_rows.proofs.Changes.{follows}
use Rattle.gm_engine_rows.proofs.laws.rows_follow_a_change.Goals as goal

pub returns : goal.returns
returns c = follows c.keys_tell_features_apart.ensures c.rows_of_a_map.ensures.at
