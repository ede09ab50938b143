-- The bins of a period: lengths laid end to end from 1970-01-01T00:00:00Z on.
use Rattle.std.specs.Prelude.{◌≡◌, ℕ, zero, suc, ◌+◌, ◌*◌, ◌/◌, ◌<◌, ◌≤◌, ◌==◌, if◌then◌else◌, ℤ}
use Rattle.std.specs.Prelude.{pos, negsuc, ◌-ℤ◌, ◌≤ℤ◌, ◌<ℤ◌, ◌⊎◌, unsigned_abs, Option, Some, None}
use Rattle.std.specs.Prelude.{IsSomeAnd}
use Rattle.gm_calendar.specs.declared.period.Period.{Period}
use Rattle.gm_calendar.specs.declared.period.Period.TheVariants.{Day, Week, Month, Year}
use Rattle.gm_calendar.specs.declared.bin.Bin.{Bin}
use Rattle.gm_calendar.specs.Calendar.{days_of_month, days_of_year, span_at}
use Rattle.gm_calendar.specs.Instant.{day_ms}
use Rattle.gm_calendar.specs.Period.{last_of, unit_of}

-- a month of a year, from 1 for January
pub record YearMonth : Type 0 where
  pub year : ℕ
  pub month : ℕ

abbrev pub next_month : YearMonth → YearMonth
next_month at =
    if at.month == 12 then record { year = at.year + 1; month = 1 }
    else record { year = at.year; month = at.month + 1 }

-- the month that many months after January 1970
unfoldable pub month_at : ℕ → YearMonth
month_at zero = record { year = 1970; month = 1 }
month_at (suc n) = next_month (month_at n)

-- the days of a bin
abbrev pub days_of_bin : Period → ℕ → ℕ
days_of_bin Day bin_number = 1
days_of_bin Week bin_number = 7
days_of_bin Month bin_number = days_of_month (month_at bin_number).year (month_at bin_number).month
days_of_bin Year bin_number = days_of_year (1970 + bin_number)

-- the day on which a bin starts: the first is day 0, 1970-01-01, and the next comes the days of
-- this bin later
unfoldable pub bin_start : Period → ℕ → ℕ
bin_start period zero = 0
bin_start period (suc bin_number) = bin_start period bin_number + days_of_bin period bin_number

-- the first millisecond of a bin, and its last: the one before the next bin's first
abbrev pub first_ms : Period → ℕ → ℤ
first_ms period bin_number = pos (bin_start period bin_number * day_ms)

abbrev pub last_ms : Period → ℕ → ℤ
last_ms period bin_number = first_ms period (bin_number + 1) -ℤ pos 1

-- the milliseconds from the start of the bin to the instant
abbrev pub ms_since : Period → ℕ → ℤ → ℕ
ms_since period bin_number at = unsigned_abs (at -ℤ first_ms period bin_number)

-- the bin starts at or before the instant and the next one after it, and the offset is the time
-- since the start, in whole units
pub record IsBinOf (period : Period) (at : ℤ) (bin : Bin) : Type 0 where
  pub numbered : bin.number ≤ last_of period
  pub started : first_ms period bin.number ≤ℤ at
  pub not_ended : at <ℤ first_ms period (bin.number + 1)
  pub offset_is : bin.offset ≡ ms_since period bin.number at / unit_of period

-- the instant is before the first bin, or after the last
abbrev pub HasNoBin : Period → ℤ → Type 0
HasNoBin period at = (at <ℤ pos 0) ⊎ (first_ms period (last_of period + 1) ≤ℤ at)

-- the milliseconds of a bin
abbrev pub ms_of_bin : Period → ℕ → ℕ
ms_of_bin period bin_number = days_of_bin period bin_number * day_ms

abbrev pub bin_from : Period → Option (ℕ × ℕ) → Option Bin
bin_from period None = None
bin_from period (Some at) = Some record { number = at.0; offset = at.1 / unit_of period }

-- the bin of an instant, if it has one
abbrev pub bin_at : Period → ℤ → Option Bin
bin_at period (negsuc before) = None
bin_at period (pos ms) = bin_from period (span_at (ms_of_bin period) (last_of period + 1) 0 ms)

-- the instant is in the bin with that number
abbrev pub HasNumber : Period → ℤ → ℕ → Type 0
HasNumber period at bin_number = IsSomeAnd (bin_at period at) (λ bin. bin.number ≡ bin_number)

-- it lies from the first millisecond of a bin to the last
abbrev pub LiesIn : Period → ℤ → ℕ → Type 0
LiesIn period at bin_number = (first_ms period bin_number ≤ℤ at) × (at ≤ℤ last_ms period bin_number)

-- an earlier bin, or the same with no greater offset
abbrev pub IsNotAfter : Bin → Bin → Type 0
IsNotAfter a b = (a.number < b.number) ⊎ ((a.number ≡ b.number) × (a.offset ≤ b.offset))
