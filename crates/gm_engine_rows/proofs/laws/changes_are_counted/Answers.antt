use Rattle.gm_engine_rows.proofs.Counts.{counted}
use Rattle.gm_engine_rows.proofs.laws.changes_are_counted.Goals as goal

pub returns : goal.returns
returns c = counted c.keys_tell_features_apart.ensures c.rows_of_a_map.ensures.at
