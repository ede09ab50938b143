use Rattle.std.proofs.Common.{◌++◌}
use Rattle.byteorder.specs.Endian.{big_bytes}
use Rattle.gm_keys.specs.Key.{prefix_of, code_front, bin_front, bin_code_front}
use Rattle.gm_keys.proofs.Between.{begins, behind_a_shard, behind_a_prefix, prefix_ended}
use Rattle.gm_keys.proofs.laws.keys_within_begin_alike.Goals as goal

pub returns-clause-codes : goal.returns-clause-codes
unfolding code_front
returns-clause-codes c =
    λ t kind shard low high key small within. behind_a_shard (prefix_of t kind) shard
    (big_bytes 8 low) (big_bytes 8 high) key small within

pub returns-clause-in_bin : goal.returns-clause-in_bin
unfolding bin_code_front
returns-clause-in_bin c = λ t kind shard bin low high key small within.
    behind_a_shard (prefix_of t kind) shard (big_bytes 2 bin ++ big_bytes 8 low)
    (big_bytes 2 bin ++ big_bytes 8 high) key small within

pub returns-clause-bins : goal.returns-clause-bins
unfolding bin_front
returns-clause-bins c =
    λ t kind shard first last key small within. behind_a_shard (prefix_of t kind) shard
    (big_bytes 2 first) (big_bytes 2 last) key small within

pub returns-clause-values : goal.returns-clause-values
returns-clause-values c = λ prefix low high key within. let found =
    begins prefix low high key within in (found.0, found.1)

pub returns-clause-to_the_end : goal.returns-clause-to_the_end
returns-clause-to_the_end c =
    λ t kind low key typed has within. behind_a_prefix (prefix_of t kind) low key
    (prefix_ended t kind typed has) within
