-- Byte ranges in order, those that overlap or touch made one.
use Rattle.std.specs.Prelude.{ℕ, Bool, false, if◌then◌else◌, List, [], ◌∷◌, fold, Option, Some}
use Rattle.std.specs.Prelude.{None}
use Rattle.gm_bounds.specs.declared.byte_range.ByteRange.{ByteRange}
use Rattle.gm_bounds.specs.ByteRange.{is_less, joined}

abbrev pub ends_below : Option (List ℕ) → List ℕ → Bool
ends_below None low = false
ends_below (Some high) low = is_less high low

-- the one ends before the other begins, and they don't touch
abbrev pub stands_before : ByteRange → ByteRange → Bool
stands_before r s = ends_below r.high s.low

-- a range put in its place among ranges in order: those that it overlaps or touches become one with
-- it
abbrev pub merged_in : ByteRange → List ByteRange → List ByteRange
merged_in r [] = r ∷ []
merged_in r (s ∷ ranges) =
    if stands_before r s then r ∷ s ∷ ranges
    else if stands_before s r then s ∷ merged_in r ranges
    else merged_in (joined r s) ranges

-- one range after the other
abbrev pub merged : List ByteRange → List ByteRange
merged ranges = fold (λ held r. merged_in r held) [] ranges

-- what becomes of the ranges that are left, where one is still kept back
abbrev pub pending : Option ByteRange → List ByteRange → List ByteRange
pending None rest = rest
pending (Some kept) rest = merged_in kept rest
