-- Instants, as their milliseconds since 1970-01-01T00:00:00Z.
use Rattle.std.specs.Prelude.{ℕ, Bool, ◌&&◌, ℤ, pos, neg_ℤ, int_le, ◌≤ℤ◌, if◌then◌else◌, Option}
use Rattle.std.specs.Prelude.{Some, None}

-- the milliseconds from 0000-01-01T00:00:00Z to 1970, and the last of the year 9999
abbrev pub ms_before_1970 : ℕ
ms_before_1970 = 62_167_219_200_000

abbrev pub last_instant : ℕ
last_instant = 253_402_300_799_999

-- from the first millisecond of the year 0000 to the last of the year 9999
abbrev pub IsInstant : ℤ → Type 0
IsInstant ms = (neg_ℤ (pos ms_before_1970) ≤ℤ ms) × (ms ≤ℤ pos last_instant)

-- the same as a test
abbrev pub is_instant : ℤ → Bool
is_instant ms = int_le (neg_ℤ (pos ms_before_1970)) ms && int_le ms (pos last_instant)

-- the instant at that millisecond, if there is one
abbrev pub instant_at : ℤ → Option ℤ
instant_at ms = if is_instant ms then Some ms else None

-- the milliseconds of a second, a minute, an hour and a day
abbrev pub second_ms : ℕ
second_ms = 1_000

abbrev pub minute_ms : ℕ
minute_ms = 60_000

abbrev pub hour_ms : ℕ
hour_ms = 3_600_000

abbrev pub day_ms : ℕ
day_ms = 86_400_000

-- the most digits of a fraction of a second
abbrev pub fraction_digits : ℕ
fraction_digits = 9
