-- FNV-1a with 32 bits.
use Rattle.std.specs.Prelude.{ℕ, ◌*◌, ◌%◌, ◌^◌, List, fold, bit_xor}

-- the prime and the offset basis of 32 bits
abbrev pub fnv_prime : ℕ
fnv_prime = 16777619

abbrev pub fnv_offset_basis : ℕ
fnv_offset_basis = 2166136261

-- exclusive-or with the byte, and then times the prime, modulo 2^32
abbrev pub hash_step : ℕ → ℕ → ℕ
hash_step hash byte = bit_xor hash byte * fnv_prime % 2 ^ 32

abbrev pub fnv1a_of : List ℕ → ℕ
fnv1a_of bytes = fold hash_step fnv_offset_basis bytes
