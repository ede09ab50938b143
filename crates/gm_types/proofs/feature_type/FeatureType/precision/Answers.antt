use Rattle.gm_types.proofs.ListedValues.{is_precision-precision_of}
use Rattle.gm_types.proofs.feature_type.FeatureType.precision.Goals as goal

pub returns-clause-listed : goal.returns-clause-listed
returns-clause-listed c = rw c.self.invariant.facts.sizes.precision (is_precision-precision_of _)
