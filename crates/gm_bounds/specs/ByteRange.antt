-- Ranges of bytes: the low end is in it, the high end is not. Without a high end it goes on to the
-- last.
use Rattle.std.specs.Prelude.{ℕ, Bool, false, if◌then◌else◌, List, Option, Some, None}
use Rattle.std.specs.Ordering.{nat_cmp, is_lt, is_le}
use Rattle.std.specs.Cmp.Lexicographic.{slice_cmp}
use Rattle.gm_lexi.specs.Ends.{is_from_to}
use Rattle.gm_bounds.specs.declared.byte_range.ByteRange.{ByteRange}

abbrev pub range : List ℕ → Option (List ℕ) → ByteRange
range low high = record { low = low; high = high }

-- the one stands before the other, in byte order
abbrev pub is_less : List ℕ → List ℕ → Bool
is_less a b = is_lt (slice_cmp nat_cmp a b)

abbrev pub greater : List ℕ → List ℕ → List ℕ
greater a b = if is_less a b then b else a

abbrev pub less : List ℕ → List ℕ → List ℕ
less a b = if is_less b a then b else a

-- the end that comes first, where a missing one is the last
abbrev pub less_end : Option (List ℕ) → Option (List ℕ) → Option (List ℕ)
less_end None b = b
less_end (Some a) None = Some a
less_end (Some a) (Some b) = Some (less a b)

abbrev pub greater_end : Option (List ℕ) → Option (List ℕ) → Option (List ℕ)
greater_end None b = None
greater_end (Some a) None = None
greater_end (Some a) (Some b) = Some (greater a b)

-- the bytes in both
abbrev pub met : ByteRange → ByteRange → ByteRange
met r s = range (greater r.low s.low) (less_end r.high s.high)

-- the least range that holds both; an end that is missing stays missing
abbrev pub joined : ByteRange → ByteRange → ByteRange
joined r s = range (less r.low s.low) (greater_end r.high s.high)

abbrev pub is_void_to : List ℕ → Option (List ℕ) → Bool
is_void_to low None = false
is_void_to low (Some high) = is_le (slice_cmp nat_cmp high low)

-- it ends where it begins, or before
abbrev pub is_void : ByteRange → Bool
is_void r = is_void_to r.low r.high

-- the lexicoded form is in the range
abbrev pub is_form_in : Option (List ℕ) → ByteRange → Bool
is_form_in None r = false
is_form_in (Some form) r = is_from_to r.low r.high form
