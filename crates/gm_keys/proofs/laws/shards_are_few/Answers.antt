use Rattle.std.proofs.Common.{arith, mod-lt}
use Rattle.gm_keys.specs.Key.{shard_of}
use Rattle.gm_keys.proofs.laws.shards_are_few.Goals as goal

pub returns : goal.returns
unfolding shard_of
returns c = λ t id some. mod-lt _ (omega arith)
