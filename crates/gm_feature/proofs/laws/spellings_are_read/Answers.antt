use Rattle.gm_feature.proofs.Contents.{value_again}
use Rattle.gm_feature.proofs.Wholes.{identifier_again, feature_again}
use Rattle.gm_feature.proofs.laws.spellings_are_read.Goals as goal

pub returns-clause-identifier : goal.returns-clause-identifier
returns-clause-identifier c = identifier_again

pub returns-clause-value : goal.returns-clause-value
returns-clause-value c = value_again

pub returns-clause-feature : goal.returns-clause-feature
returns-clause-feature c = feature_again
