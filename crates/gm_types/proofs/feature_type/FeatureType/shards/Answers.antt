use Rattle.gm_types.proofs.ListedValues.{is_shard_count-shards_of, shards_at_least-one}
use Rattle.gm_types.proofs.ListedValues.{shards_at_most-127}
use Rattle.gm_types.proofs.feature_type.FeatureType.shards.Goals as goal

pub returns-clause-some : goal.returns-clause-some
returns-clause-some c =
    rw c.self.invariant.facts.sizes.shards (shards_at_least-one _ (is_shard_count-shards_of _))

pub returns-clause-few : goal.returns-clause-few
returns-clause-few c =
    rw c.self.invariant.facts.sizes.shards (shards_at_most-127 _ (is_shard_count-shards_of _))
