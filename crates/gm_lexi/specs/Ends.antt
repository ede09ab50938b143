-- The end of the strings that begin with given bytes.
use Rattle.std.specs.Prelude.{ℕ, ◌+◌, Bool, true, not, ◌&&◌, ◌==◌, List, [], ◌∷◌, Option, Some}
use Rattle.std.specs.Prelude.{None, if◌then◌else◌}
use Rattle.std.specs.Ordering.{nat_cmp, is_le}
use Rattle.std.specs.Cmp.Lexicographic.{slice_cmp}
use Rattle.gm_base.specs.Ascii.{last_byte}

-- one more than the last byte that can be raised, the bytes behind it being left out
abbrev pub raised : ℕ → Option (List ℕ) → Option (List ℕ)
raised byte None = if byte == last_byte then None else Some ((byte + 1) ∷ [])
raised byte (Some rest) = Some (byte ∷ rest)

-- the bytes without those of 0xFF at their end, the last byte left being one more; none where each
-- byte is 0xFF
abbrev pub after_of : List ℕ → Option (List ℕ)
after_of [] = None
after_of (byte ∷ bytes) = raised byte (after_of bytes)

-- below the end, and where there is none always
abbrev pub is_before : Option (List ℕ) → List ℕ → Bool
is_before None bytes = true
is_before (Some end) bytes = not (is_le (slice_cmp nat_cmp end bytes))

-- low <= bytes < end
abbrev pub is_from_to : List ℕ → Option (List ℕ) → List ℕ → Bool
is_from_to low end bytes = is_le (slice_cmp nat_cmp low bytes) && is_before end bytes
