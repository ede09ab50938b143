-- Bits spread at even distances.
use Rattle.std.specs.Prelude.{ℕ, zero, suc, ◌+◌, ◌*◌, ◌/◌, ◌%◌, ◌^◌}

-- the first n blocks of k bits of a number, the lowest of each standing at a multiple of D * k
abbrev pub spaced : ℕ → ℕ → ℕ → ℕ → ℕ
spaced D k zero x = 0
spaced D k (suc n) x = spaced D k n (x / 2 ^ k) * 2 ^ (D * k) + x % 2 ^ k

-- the number of the first n bits at multiples of D
abbrev pub gathered : ℕ → ℕ → ℕ → ℕ
gathered D zero c = 0
gathered D (suc n) c = gathered D n (c / 2 ^ D) * 2 + c % 2

-- the number whose bit D*j is bit j of a number of 32 bits
unfoldable pub spread_of : ℕ → ℕ → ℕ
spread_of D x = spaced D 1 32 x

-- the number whose bit j is bit D*j, for j under 32
unfoldable pub gather_of : ℕ → ℕ → ℕ
gather_of D c = gathered D 32 c
