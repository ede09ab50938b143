-- The XZ code, after Böhm, Klump and Kriegel (1999).
use Rattle.std.specs.Prelude.{ℕ, zero, suc, ◌+◌, ◌-◌, ◌/◌, ◌^◌, ◌<◌, ◌≤◌, List, [], ◌∷◌, length}
use Rattle.std.specs.Prelude.{slice_index, nat_le, Bool, true, ◌&&◌, if◌then◌else◌}
use Rattle.gm_curve.specs.Curve.{bits_at}
use Rattle.gm_curve.specs.Listing.{listing, place_in}

-- in each dimension low and high lie in one cell of this side or in two that touch
abbrev pub IsCovered : ℕ → List ℕ → List ℕ → Type 0
IsCovered side low high =
    (d : ℕ) → d < length low → slice_index high d / side ≤ slice_index low d / side + 1

-- the level of an object: the greatest up to G whose cells cover it so
pub record IsLevel (G : ℕ) (low high : List ℕ) (l : ℕ) : Type 0 where
  pub most : l ≤ G
  pub covered : IsCovered (2 ^ (G - l)) low high
  pub greatest : (k : ℕ) → k ≤ G → IsCovered (2 ^ (G - k)) low high → k ≤ l

-- the test of `IsCovered`
abbrev pub is_covered : ℕ → List ℕ → List ℕ → Bool
is_covered side (l ∷ low) (h ∷ high) = nat_le (h / side) (l / side + 1) && is_covered side low high
is_covered side _ _ = true

-- the greatest number up to n that passes a test, or 0
abbrev pub greatest : ℕ → (ℕ → Bool) → ℕ
greatest zero test = 0
greatest (suc n) test = if test (suc n) then suc n else greatest n test

-- the level as a number
abbrev pub level_of : ℕ → List ℕ → List ℕ → ℕ
level_of G low high = greatest G (λ l. is_covered (2 ^ (G - l)) low high)

-- the first l numbers of the sequence of a cell of G bits: place i has the bits G-i of its indexes
abbrev pub sequence_of : ℕ → ℕ → List ℕ → List ℕ
sequence_of zero _ low = []
sequence_of (suc g) zero low = []
sequence_of (suc g) (suc l) low = bits_at g low ∷ sequence_of g l low

-- the place in the listing of the sequence of an object
abbrev pub xz_code : ℕ → ℕ → List ℕ → List ℕ → ℕ
xz_code D G low high = place_in (listing D G) (sequence_of G (level_of G low high) low)
