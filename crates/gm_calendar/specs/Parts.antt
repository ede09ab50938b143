-- Which texts spell which instants, by the parts of a text laid end to end: a date, then optionally
-- `T` and a time, and behind a time optionally a zone. Each part stands for a number of
-- milliseconds, and a text for their sum since 1970-01-01T00:00:00Z.
use Rattle.std.specs.Prelude.{◌≡◌, ◌<◌, ◌≤◌, ◌⊎◌, ℕ, ◌+◌, ◌*◌, true, List, [], ◌∷◌, ◌++◌, length}
use Rattle.std.specs.Prelude.{take, fold, ℤ, pos, neg_ℤ, ◌+ℤ◌, ◌*ℤ◌}
use Rattle.std.specs.Char.{is_ascii_digit}
use Rattle.std.specs.List.{list_all}
use Rattle.jiff_core.specs.Calendar.{days_from_civil}
use Rattle.gm_base.specs.Ascii.{plus_sign, minus_sign, decimal_point, digit_zero, colon}
use Rattle.gm_base.specs.Ascii.{letter_t, letter_z}
use Rattle.gm_calendar.specs.Calendar.{days_of_month}
use Rattle.gm_calendar.specs.Instant.{day_ms, second_ms, minute_ms, fraction_digits, IsInstant}
use Rattle.gm_base.specs.Ascii.{next_digit}

-- so many digits, which write that number
pub record SpellsDigits (count : ℕ) (text : List ℕ) (n : ℕ) : Type 0 where
  pub long : length text ≡ count
  pub are_digits : list_all is_ascii_digit text ≡ true
  pub value : fold next_digit 0 text ≡ n

-- `YYYY-MM-DD` of a date that the calendar has: its first millisecond
pub record SpellsDate (text : List ℕ) (ms : ℤ) : Type 0 where
  pub year : ℕ
  pub month : ℕ
  pub day : ℕ
  pub year_text : List ℕ
  pub month_text : List ℕ
  pub day_text : List ℕ
  pub year_is : SpellsDigits 4 year_text year
  pub month_is : SpellsDigits 2 month_text month
  pub day_is : SpellsDigits 2 day_text day
  pub in_year : (1 ≤ month) × (month ≤ 12)
  pub in_month : (1 ≤ day) × (day ≤ days_of_month year month)
  pub value : days_from_civil (pos year) month day *ℤ pos day_ms ≡ ms
  pub written : text ≡ year_text ++ (minus_sign ∷ (month_text ++ (minus_sign ∷ day_text)))

-- `HH:MM`, from 00:00 to 23:59
pub record SpellsClock (text : List ℕ) (ms : ℤ) : Type 0 where
  pub hours : ℕ
  pub minutes : ℕ
  pub hours_text : List ℕ
  pub minutes_text : List ℕ
  pub hours_are : SpellsDigits 2 hours_text hours
  pub minutes_are : SpellsDigits 2 minutes_text minutes
  pub in_day : hours < 24
  pub in_hour : minutes < 60
  pub value : pos ((hours * 60 + minutes) * minute_ms) ≡ ms
  pub written : text ≡ hours_text ++ (colon ∷ minutes_text)

-- the milliseconds of the digits of a fraction of a second: those past the third count for nothing
abbrev pub fraction_ms : List ℕ → ℕ
fraction_ms digits = fold next_digit 0 (take 3 (digits ++ digit_zero ∷ digit_zero ∷ []))

-- `.` and one to nine digits
pub record MarksFraction (text : List ℕ) (ms : ℤ) : Type 0 where
  pub digits : List ℕ
  pub are_digits : list_all is_ascii_digit digits ≡ true
  pub some : 1 ≤ length digits
  pub few : length digits ≤ fraction_digits
  pub value : pos (fraction_ms digits) ≡ ms
  pub written : text ≡ decimal_point ∷ digits

-- a fraction, or nothing
abbrev pub SpellsFraction : List ℕ → ℤ → Type 0
SpellsFraction text ms = ((text ≡ []) × (ms ≡ pos 0)) ⊎ MarksFraction text ms

-- `:SS` from 00 to 59, and a fraction
pub record MarksSeconds (text : List ℕ) (ms : ℤ) : Type 0 where
  pub seconds : ℕ
  pub seconds_text : List ℕ
  pub fraction : List ℕ
  pub part : ℤ
  pub seconds_are : SpellsDigits 2 seconds_text seconds
  pub in_minute : seconds < 60
  pub fraction_is : SpellsFraction fraction part
  pub value : pos (seconds * second_ms) +ℤ part ≡ ms
  pub written : text ≡ colon ∷ (seconds_text ++ fraction)

-- seconds, or nothing
abbrev pub SpellsSeconds : List ℕ → ℤ → Type 0
SpellsSeconds text ms = ((text ≡ []) × (ms ≡ pos 0)) ⊎ MarksSeconds text ms

-- a sign and `HH:MM`
pub record MarksShift (text : List ℕ) (sign : ℕ) (ms : ℤ) : Type 0 where
  pub clock : List ℕ
  pub clock_is : SpellsClock clock ms
  pub written : text ≡ sign ∷ clock

-- what a zone adds: the local time is behind UTC at a minus, and ahead of it at a plus
abbrev pub SpellsShift : List ℕ → ℤ → Type 0
SpellsShift text ms =
    MarksShift text minus_sign ms
    ⊎ ((ahead : ℤ) × MarksShift text plus_sign ahead × (ms ≡ neg_ℤ ahead))

-- no zone or `Z`, which are UTC, or a shift
abbrev pub SpellsZone : List ℕ → ℤ → Type 0
SpellsZone text ms =
    (((text ≡ []) ⊎ (text ≡ letter_z ∷ [])) × (ms ≡ pos 0)) ⊎ SpellsShift text ms

-- `T`, `HH:MM`, seconds and a zone
pub record MarksTime (text : List ℕ) (ms : ℤ) : Type 0 where
  pub clock : List ℕ
  pub seconds : List ℕ
  pub zone : List ℕ
  pub clock_ms : ℤ
  pub seconds_ms : ℤ
  pub zone_ms : ℤ
  pub clock_is : SpellsClock clock clock_ms
  pub seconds_are : SpellsSeconds seconds seconds_ms
  pub zone_is : SpellsZone zone zone_ms
  pub value : clock_ms +ℤ (seconds_ms +ℤ zone_ms) ≡ ms
  pub written : text ≡ letter_t ∷ (clock ++ (seconds ++ zone))

-- a time, or nothing, which is midnight in UTC
abbrev pub SpellsTime : List ℕ → ℤ → Type 0
SpellsTime text ms = ((text ≡ []) × (ms ≡ pos 0)) ⊎ MarksTime text ms

-- a date and a time, of an instant of the years 0000 to 9999
pub record SpellsInstant (text : List ℕ) (at : ℤ) : Type 0 where
  pub date : List ℕ
  pub time : List ℕ
  pub date_ms : ℤ
  pub time_ms : ℤ
  pub date_is : SpellsDate date date_ms
  pub time_is : SpellsTime time time_ms
  pub value : date_ms +ℤ time_ms ≡ at
  pub within : IsInstant at
  pub written : text ≡ date ++ time
