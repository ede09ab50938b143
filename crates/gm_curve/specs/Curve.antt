-- The Z code, by its bits.
use Rattle.std.specs.Prelude.{◌≡◌, ◌<◌, ◌≤◌, ℕ, zero, suc, ◌+◌, ◌*◌, ◌^◌, List, [], ◌∷◌}
use Rattle.std.specs.Prelude.{slice_index}
use Rattle.std.specs.Int.{bit_at}

-- the code of these coordinates: its bit D*j + d is bit j of coordinate d, for j under B, and it
-- has no other bit
pub record IsZCode (D B : ℕ) (at : List ℕ) (code : ℕ) : Type 0 where
  pub bits : (j d : ℕ) → j < B → d < D → bit_at code (D * j + d) ≡ bit_at (slice_index at d) j
  pub no_other : code < 2 ^ (D * B)

-- the bits at place j of each coordinate, that of the first the lowest
abbrev pub bits_at : ℕ → List ℕ → ℕ
bits_at j [] = 0
bits_at j (x ∷ xs) = bit_at x j + 2 * bits_at j xs

-- the number with these bits: those at the highest place stand above the code of the places below
abbrev pub z_code : ℕ → ℕ → List ℕ → ℕ
z_code D zero at = 0
z_code D (suc j) at = bits_at j at * 2 ^ (D * j) + z_code D j at

-- no number is above the one at its place
abbrev pub IsAtMost : List ℕ → List ℕ → Type 0
IsAtMost a b = (d : ℕ) → slice_index a d ≤ slice_index b d
