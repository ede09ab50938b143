use Rattle.gm_types.proofs.ListedValues.{is_z2_width-z2_bits_of}
use Rattle.gm_types.proofs.feature_type.FeatureType.z2_bits.Goals as goal

pub returns-clause-listed : goal.returns-clause-listed
returns-clause-listed c = rw c.self.invariant.facts.sizes.z2_bits (is_z2_width-z2_bits_of _)
