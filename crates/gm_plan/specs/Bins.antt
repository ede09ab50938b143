-- The bins of a period that intervals of time meet.
use Rattle.std.specs.Prelude.{ℕ, ◌+◌, ◌/◌, Bool, int_le, ℤ, List, filter, Option, Some, None}
use Rattle.std.specs.Int.{int_min, int_max}
use Rattle.std.specs.List.{list_any, range_with_len}
use Rattle.gm_calendar.specs.declared.period.Period.{Period}
use Rattle.gm_calendar.specs.Bin.{first_ms, last_ms, ms_since}
use Rattle.gm_calendar.specs.Period.{last_of, unit_of}
use Rattle.gm_bounds.specs.declared.interval.Interval.{Interval}

abbrev pub not_before : Option ℤ → ℤ → ℤ
not_before None at = at
not_before (Some low) at = int_max low at

abbrev pub not_after : Option ℤ → ℤ → ℤ
not_after None at = at
not_after (Some high) at = int_min high at

-- the first millisecond of an interval in a bin, and its last
abbrev pub start_in : Period → ℕ → Interval → ℤ
start_in period bin_number i = not_before i.low (first_ms period bin_number)

abbrev pub end_in : Period → ℕ → Interval → ℤ
end_in period bin_number i = not_after i.high (last_ms period bin_number)

-- the interval meets the bin: some millisecond lies in both
abbrev pub meets_bin : Period → ℕ → Interval → Bool
meets_bin period bin_number i = int_le (start_in period bin_number i) (end_in period bin_number i)

abbrev pub is_met : Period → List Interval → ℕ → Bool
is_met period intervals bin_number = list_any (meets_bin period bin_number) intervals

-- the bins that an interval meets, each once, the first first
unfoldable pub bins_of : Period → List Interval → List ℕ
bins_of period intervals = filter (is_met period intervals) (range_with_len 0 (last_of period + 1))

-- the offset in a bin of a millisecond: the time since the bin's start, in whole units
abbrev pub offset_in : Period → ℕ → ℤ → ℕ
offset_in period bin_number at = ms_since period bin_number at / unit_of period
