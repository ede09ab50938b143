use Rattle.gm_types.proofs.ListedValues.{is_z3_width-z3_bits_of}
use Rattle.gm_types.proofs.feature_type.FeatureType.z3_bits.Goals as goal

pub returns-clause-listed : goal.returns-clause-listed
returns-clause-listed c = rw c.self.invariant.facts.sizes.z3_bits (is_z3_width-z3_bits_of _)
