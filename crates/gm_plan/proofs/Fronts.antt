-- A front with a bin and a code is one with the bin, and the code behind it.
use Rattle.std.proofs.Common.{◌≡◌, ℕ, List, [], ◌∷◌, ◌++◌, sym, append_assoc}
use Rattle.byteorder.specs.Endian.{big_bytes}
use Rattle.gm_keys.specs.Key.{code_front, bin_front, bin_code_front}

pub bin_code_is : (prefix : List ℕ) (shard number code : ℕ)
    → bin_code_front prefix shard number code ≡ bin_front prefix shard number ++ big_bytes 8 code
unfolding bin_code_front bin_front
bin_code_is prefix shard number code =
    sym (append_assoc prefix (shard ∷ big_bytes 2 number) (big_bytes 8 code))

-- each of the two is the prefix with the shard, and what stands behind these
pub code_front_is : (prefix : List ℕ) (shard code : ℕ)
    → code_front prefix shard code ≡ (prefix ++ shard ∷ []) ++ big_bytes 8 code
unfolding code_front
code_front_is prefix shard code = sym (append_assoc prefix (shard ∷ []) (big_bytes 8 code))

pub bin_code_front_is : (prefix : List ℕ) (shard number code : ℕ)
    → bin_code_front prefix shard number code
    ≡ (prefix ++ shard ∷ []) ++ (big_bytes 2 number ++ big_bytes 8 code)
unfolding bin_code_front
bin_code_front_is prefix shard number code =
    sym (append_assoc prefix (shard ∷ []) (big_bytes 2 number ++ big_bytes 8 code))
