use Rattle.gm_feature.proofs.Wholes.{one_feature}
use Rattle.gm_feature.proofs.laws.bytes_tell_features_apart.Goals as goal

pub returns : goal.returns
returns c = one_feature
