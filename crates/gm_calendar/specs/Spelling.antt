-- The instant of a text as a function, which takes the text apart from the front, and the printed
-- form. Which texts spell which instants is said in `Parts`.
use Rattle.std.specs.Prelude.{ℕ, ◌+◌, ◌-◌, ◌*◌, ◌/◌, ◌%◌, Bool, ◌&&◌, ◌||◌, ◌==◌, nat_lt, nat_le}
use Rattle.std.specs.Prelude.{if◌then◌else◌, List, [], ◌∷◌, ◌++◌, length, take, drop, fold}
use Rattle.std.specs.Prelude.{slice_index, slice_index_or, slice_range, ℤ, pos, neg_ℤ, ◌+ℤ◌, ◌*ℤ◌}
use Rattle.std.specs.Prelude.{unsigned_abs, Option, Some, None}
use Rattle.std.specs.Char.{is_ascii_digit}
use Rattle.std.specs.List.{list_all, prefix_len}
use Rattle.jiff_core.specs.Calendar.{days_from_civil}
use Rattle.gm_base.specs.Ascii.{next_digit, plus_sign, minus_sign, decimal_point, digit_zero, colon}
use Rattle.gm_base.specs.Ascii.{letter_t, letter_z}
use Rattle.gm_calendar.specs.Calendar.{days_of_month, days_of_year, days_of_nth_month, span_at}
use Rattle.gm_calendar.specs.Instant.{day_ms, hour_ms, minute_ms, second_ms, ms_before_1970}
use Rattle.gm_calendar.specs.Instant.{instant_at, fraction_digits}

abbrev pub number_of : List ℕ → Option ℕ
number_of bytes = if list_all is_ascii_digit bytes then Some (fold next_digit 0 bytes) else None

-- a date that the calendar has
abbrev pub is_date : ℕ → ℕ → ℕ → Bool
is_date year month day =
    (nat_le 1 month && nat_le month 12) && (nat_le 1 day && nat_le day (days_of_month year month))

-- the first millisecond of a date
abbrev pub date_at : Option ℕ → Option ℕ → Option ℕ → Option ℤ
date_at (Some year) (Some month) (Some day) =
    if is_date year month day
    then Some (days_from_civil (pos year) month day *ℤ pos day_ms)
    else None
date_at _ _ _ = None

-- ten bytes, with a minus behind the year and behind the month
abbrev pub has_date_marks : List ℕ → Bool
has_date_marks text =
    length text == 10 && (slice_index text 4 == minus_sign && slice_index text 7 == minus_sign)

-- the digits of the year, the month and the day
abbrev pub year_at : List ℕ → List ℕ
year_at text = slice_range text 0 4

abbrev pub month_at : List ℕ → List ℕ
month_at text = slice_range text 5 7

abbrev pub day_at : List ℕ → List ℕ
day_at text = slice_range text 8 10

-- `YYYY-MM-DD`
abbrev pub date_of : List ℕ → Option ℤ
date_of text =
    if has_date_marks text
    then date_at (number_of (year_at text)) (number_of (month_at text)) (number_of (day_at text))
    else None

-- hours from 00 to 23 and minutes from 00 to 59
abbrev pub clock_at : Option ℕ → Option ℕ → Option ℤ
clock_at (Some hours) (Some minutes) =
    if nat_lt hours 24 && nat_lt minutes 60
    then Some (pos ((hours * 60 + minutes) * minute_ms))
    else None
clock_at _ _ = None

-- `HH:MM`
abbrev pub clock_of : List ℕ → Option ℤ
clock_of text =
    if (length text == 5) && (slice_index text 2 == colon)
    then clock_at (number_of (slice_range text 0 2)) (number_of (slice_range text 3 5))
    else None

-- seconds from 00 to 59
abbrev pub second_at : Option ℕ → Option ℤ
second_at None = None
second_at (Some seconds) = if nat_lt seconds 60 then Some (pos (seconds * second_ms)) else None

-- `SS`
abbrev pub second_of : List ℕ → Option ℤ
second_of text = if length text == 2 then second_at (number_of text) else None

-- the digit in that place, and 0 where there is none
abbrev pub digit_at : List ℕ → ℕ → ℕ
digit_at digits index = slice_index_or digits index digit_zero - digit_zero

-- the one to nine digits of a fraction of a second: those past the third count for nothing
abbrev pub fraction_of : List ℕ → Option ℤ
fraction_of digits =
    if nat_le 1 (length digits) && nat_le (length digits) fraction_digits
    then Some (pos (digit_at digits 0 * 100 + digit_at digits 1 * 10 + digit_at digits 2)) else None

abbrev pub negative_of : Option ℤ → Option ℤ
negative_of None = None
negative_of (Some ms) = Some (neg_ℤ ms)

-- no zone or `Z`, which are UTC, or a sign and `HH:MM`: `+` means that the local time is ahead of
-- UTC
abbrev pub zone_of : List ℕ → Option ℤ
zone_of [] = Some (pos 0)
zone_of (mark ∷ rest) =
    if mark == letter_z then (if length rest == 0 then Some (pos 0) else None)
    else if mark == plus_sign then negative_of (clock_of rest)
    else if mark == minus_sign then clock_of rest
    else None

abbrev pub sum_of : Option ℤ → Option ℤ → Option ℤ
sum_of (Some a) (Some b) = Some (a +ℤ b)
sum_of _ _ = None

-- behind the seconds: `.` and the digits of a fraction, if there are any, and the zone
abbrev pub behind_seconds : List ℕ → Option ℤ
behind_seconds [] = Some (pos 0)
behind_seconds (mark ∷ rest) =
    if mark == decimal_point
    then (let digits = prefix_len is_ascii_digit rest in
    sum_of (fraction_of (take digits rest)) (zone_of (drop digits rest)))
    else zone_of (mark ∷ rest)

-- behind the minutes: `:`, `SS` and what follows these, or the zone
abbrev pub behind_minutes : List ℕ → Option ℤ
behind_minutes [] = Some (pos 0)
behind_minutes (mark ∷ rest) =
    if mark == colon
    then sum_of (second_of (take 2 rest)) (behind_seconds (drop 2 rest))
    else zone_of (mark ∷ rest)

-- behind the date: nothing, which is midnight, or `T`, `HH:MM` and what follows these
abbrev pub behind_date : List ℕ → Option ℤ
behind_date [] = Some (pos 0)
behind_date (mark ∷ rest) =
    if mark == letter_t
    then sum_of (clock_of (take 5 rest)) (behind_minutes (drop 5 rest))
    else None

abbrev pub instant_from : Option ℤ → Option ℤ
instant_from None = None
instant_from (Some ms) = instant_at ms

-- the instant that a text spells, if it spells one
abbrev pub instant_of : List ℕ → Option ℤ
instant_of text = instant_from (sum_of (date_of (take 10 text)) (behind_date (drop 10 text)))

-- a number below 100 in two digits
abbrev pub two_digits : ℕ → List ℕ
two_digits n = (digit_zero + n / 10) ∷ (digit_zero + n % 10) ∷ []

-- a year, a month and a day, as `YYYY-MM-DD`
unfoldable pub date_text : ℕ → ℕ → ℕ → List ℕ
date_text year month day =
    two_digits (year / 100) ++ two_digits (year % 100)
    ++ minus_sign ∷ two_digits month ++ minus_sign ∷ two_digits day

-- a day of a year, counted from 0: the months lie end to end
abbrev pub day_of_year_text : ℕ → Option (ℕ × ℕ) → List ℕ
day_of_year_text year None = []
day_of_year_text year (Some at) = date_text year (at.0 + 1) (at.1 + 1)

-- a day counted from 0000-01-01: the years lie end to end
abbrev pub day_text : Option (ℕ × ℕ) → List ℕ
day_text None = []
day_text (Some at) = day_of_year_text at.0 (span_at (days_of_nth_month at.0) 12 0 at.1)

-- a millisecond of a minute, as `SS.mmm`
unfoldable pub second_text : ℕ → List ℕ
second_text ms =
    two_digits (ms / second_ms)
    ++ decimal_point ∷ (digit_zero + ms % second_ms / 100) ∷ two_digits (ms % 100)

-- a millisecond of a day, as `HH:MM:SS.mmm`
unfoldable pub time_text : ℕ → List ℕ
time_text ms =
    two_digits (ms / hour_ms) ++ colon ∷ two_digits (ms / minute_ms % 60)
    ++ colon ∷ second_text (ms % minute_ms)

-- the milliseconds from 0000-01-01T00:00:00Z to the instant
abbrev pub ms_since_0000 : ℤ → ℕ
ms_since_0000 at = unsigned_abs (at +ℤ pos ms_before_1970)

-- the printed form, `YYYY-MM-DDTHH:MM:SS.mmmZ`
abbrev pub instant_text : ℤ → List ℕ
instant_text at =
    let ms = ms_since_0000 at in
    day_text (span_at days_of_year 10_000 0 (ms / day_ms))
    ++ letter_t ∷ time_text (ms % day_ms) ++ letter_z ∷ []

-- a byte that stands in spelled instants: a digit, `+`, `-`, `.`, `:`, `T` or `Z`
abbrev pub is_instant_byte : ℕ → Bool
is_instant_byte byte =
    is_ascii_digit byte || (byte == plus_sign) || (byte == minus_sign) || (byte == decimal_point)
    || (byte == colon) || (byte == letter_t) || (byte == letter_z)

-- four digits, `-`, two digits, `-` and two digits
abbrev pub has_date_form : List ℕ → Bool
has_date_form text =
    has_date_marks text
    && (list_all is_ascii_digit (year_at text) && list_all is_ascii_digit (month_at text)
    && list_all is_ascii_digit (day_at text))
