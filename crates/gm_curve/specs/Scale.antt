-- The cell of a point along one dimension.
use Rattle.std.specs.Prelude.{ℕ, ◌-◌, ◌*◌, ◌/◌, ◌^◌, min}

-- of 2^bits cells of one length along the span, the one in which u lies; the span's end is in the
-- last
abbrev pub normal_of : ℕ → ℕ → ℕ → ℕ
normal_of u span bits = min (2 ^ bits - 1) (u * 2 ^ bits / span)
