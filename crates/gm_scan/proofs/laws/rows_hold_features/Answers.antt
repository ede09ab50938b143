use Rattle.gm_scan.proofs.Holding.{some_held, one_held, joined_held}
use Rattle.gm_scan.proofs.laws.rows_hold_features.Goals as goal

pub returns : goal.returns
returns c = record {
  some = some_held;
  one = λ t. one_held t (c.bytes_tell_features_apart.ensures t);
  joined = joined_held;
}
