use Rattle.gm_feature.proofs.Sizes.{size_of_feature}
use Rattle.gm_feature.proofs.laws.fitting_features_have_few_bytes.Goals as goal

pub returns : goal.returns
returns c = size_of_feature
