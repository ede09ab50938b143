-- A printed instant is read again as the instant.
use Rattle.std.proofs.Common.{◌≡◌, ℕ, true, [], ◌∷◌, ◌++◌, Some, take, drop, ◌+◌, ◌-◌, ◌*◌, ◌/◌}
use Rattle.std.proofs.Common.{◌%◌, ◌<◌, ◌≤◌, refl, ap, ◌∙◌, arith, ℤ, pos, ◌+ℤ◌, ◌*ℤ◌, nat_lt}
use Rattle.std.proofs.lemmas.Bool.Decides.{nat_tests}
use Rattle.std.proofs.lemmas.Int.{ints}
use Rattle.jiff_core.specs.Calendar.{days_from_civil}
use Rattle.jiff_core.proofs.CalendarLemmas.{days_in_month_bounds}
use Rattle.gm_base.proofs.Numbers.{digit_of}
use Rattle.gm_calendar.proofs.Prints.{DateOf, date_of_number, day_text-date}
use Rattle.jiff_core.proofs.SignedLemmas.{signed_arith, one_part}
use Rattle.gm_calendar.specs.Calendar.{days_of_month}
use Rattle.gm_calendar.specs.Instant.{day_ms, IsInstant, instant_at}
use Rattle.gm_calendar.specs.Spelling.{number_of, date_at, date_of, clock_at, clock_of, second_at}
use Rattle.gm_calendar.specs.Spelling.{second_of, sum_of, behind_seconds, behind_minutes}
use Rattle.gm_calendar.specs.Spelling.{behind_date, instant_from, instant_of, two_digits, date_text}
use Rattle.gm_calendar.specs.Spelling.{second_text, time_text, ms_since_0000, instant_text}
use Rattle.gm_calendar.proofs.Dates.{is_date-true}

pub number_of-two : (n : ℕ) → n < 100 → number_of (two_digits n) ≡ Some n
number_of-two n h =
    let value : (0 * 10 + (48 + n / 10 - 48)) * 10 + (48 + n % 10 - 48) ≡ n = omega arith in
    rw (digit_of (n / 10) (omega arith), digit_of (n % 10) (omega arith)) (ap Some value)

pub number_of-four : (n : ℕ) → n < 10_000
    → number_of (two_digits (n / 100) ++ two_digits (n % 100)) ≡ Some n
number_of-four n h =
    let value : (((0 * 10 + (48 + n / 100 / 10 - 48)) * 10 + (48 + n / 100 % 10 - 48)) * 10
    + (48 + n % 100 / 10 - 48)) * 10 + (48 + n % 100 % 10 - 48) ≡ n = omega arith in
    rw (
      digit_of (n / 100 / 10) (omega arith),
      digit_of (n / 100 % 10) (omega arith),
      digit_of (n % 100 / 10) (omega arith),
      digit_of (n % 100 % 10) (omega arith),
    )
    (ap Some value)

date_read : (year month day : ℕ) → year < 10_000 → month < 100 → day < 100
    → date_of (date_text year month day) ≡ date_at (Some year) (Some month) (Some day)
unfolding date_text
date_read year month day y m d =
    ap (λ o. date_at o (number_of (two_digits month)) (number_of (two_digits day)))
    (number_of-four year y)
    ∙ ap (λ o. date_at (Some year) o (number_of (two_digits day))) (number_of-two month m)
    ∙ ap (λ o. date_at (Some year) (Some month) o) (number_of-two day d)

clock_read : (hours minutes : ℕ) → hours < 24 → minutes < 60
    → clock_of (two_digits hours ++ 58 ∷ two_digits minutes)
    ≡ Some (pos ((hours * 60 + minutes) * 60_000))
clock_read hours minutes h m =
    let low : nat_lt hours 24 ≡ true = grind (arith, nat_tests) in
    let high : nat_lt minutes 60 ≡ true = grind (arith, nat_tests) in
    ap (λ o. clock_at o (number_of (two_digits minutes))) (number_of-two hours (omega arith))
    ∙ ap (λ o. clock_at (Some hours) o) (number_of-two minutes (omega arith)) ∙ rw (low, high) refl

second_read : (seconds : ℕ) → seconds < 60
    → second_of (two_digits seconds) ≡ Some (pos (seconds * 1_000))
second_read seconds h =
    let low : nat_lt seconds 60 ≡ true = grind (arith, nat_tests) in
    ap second_at (number_of-two seconds (omega arith)) ∙ rw low refl

fraction_read : (ms : ℕ)
    → behind_seconds (46 ∷ (48 + ms % 1_000 / 100) ∷ (two_digits (ms % 100) ++ 90 ∷ []))
    ≡ Some (pos (ms % 1_000))
fraction_read ms =
    let value : (48 + ms % 1_000 / 100 - 48) * 100 + (48 + ms % 100 / 10 - 48) * 10
    + (48 + ms % 100 % 10 - 48) + 0 ≡ ms % 1_000 = omega arith in
    rw (
      digit_of (ms % 1_000 / 100) (omega arith),
      digit_of (ms % 100 / 10) (omega arith),
      digit_of (ms % 100 % 10) (omega arith),
    ) (ap (λ (n : ℕ). Some (pos n)) value)

second_text_read : (ms : ℕ) → ms < 60_000
    → behind_minutes (58 ∷ second_text ms ++ 90 ∷ []) ≡ Some (pos ms)
unfolding second_text
second_text_read ms h =
    let value : ms / 1_000 * 1_000 + ms % 1_000 ≡ ms = omega arith in
    ap (λ o. sum_of o
    (behind_seconds (46 ∷ (48 + ms % 1_000 / 100) ∷ (two_digits (ms % 100) ++ 90 ∷ []))))
    (second_read (ms / 1_000) (omega arith))
    ∙ ap (λ o. sum_of (Some (pos (ms / 1_000 * 1_000))) o) (fraction_read ms)
    ∙ ap (λ (n : ℕ). Some (pos n)) value

-- the time, printed
time_read : (ms : ℕ) → ms < 86_400_000 → behind_date (84 ∷ time_text ms ++ 90 ∷ []) ≡ Some (pos ms)
unfolding time_text
time_read ms h =
    let value : (ms / 3_600_000 * 60 + ms / 60_000 % 60) * 60_000 + ms % 60_000 ≡ ms =
    omega arith in
    ap (λ o. sum_of o (behind_minutes (58 ∷ second_text (ms % 60_000) ++ 90 ∷ [])))
    (clock_read (ms / 3_600_000) (ms / 60_000 % 60) (omega arith) (omega arith))
    ∙ ap (λ o. sum_of (Some (pos ((ms / 3_600_000 * 60 + ms / 60_000 % 60) * 60_000))) o)
    (second_text_read (ms % 60_000) (omega arith))
    ∙ ap (λ (n : ℕ). Some (pos n)) value

-- a date and a time, printed
text_read : (year month day ms : ℕ) → year < 10_000 → month < 100 → day < 100 → ms < 86_400_000
    → instant_of (date_text year month day ++ 84 ∷ time_text ms ++ 90 ∷ [])
    ≡ instant_from (sum_of (date_at (Some year) (Some month) (Some day)) (Some (pos ms)))
text_read year month day ms y m d h =
    let front : take 10 (date_text year month day ++ 84 ∷ time_text ms ++ 90 ∷ [])
    ≡ date_text year month day = unfold date_text in refl in
    let back : drop 10 (date_text year month day ++ 84 ∷ time_text ms ++ 90 ∷ [])
    ≡ 84 ∷ time_text ms ++ 90 ∷ [] = unfold date_text in refl in
    let date = ap date_of front ∙ date_read year month day y m d in
    let time = ap behind_date back ∙ time_read ms h in
    ap (λ o. instant_from
    (sum_of o (behind_date
    (drop 10 (date_text year month day ++ 84 ∷ time_text ms ++ 90 ∷ []))))) date
    ∙ ap (λ o. instant_from (sum_of (date_at (Some year) (Some month) (Some day)) o)) time

pub instant_at-within : (at : ℤ) → IsInstant at → instant_at at ≡ Some at
instant_at-within at h = grind (arith, ints)

-- an instant, printed: its date and the millisecond of its day
pub record Printed (at : ℤ) : Type 0 where
  pub date : DateOf (ms_since_0000 at / day_ms)
  pub text_is : instant_text at
      ≡ date_text date.year date.month date.day
      ++ 84 ∷ time_text (ms_since_0000 at % day_ms) ++ 90 ∷ []
  pub days : date.day < 100

pub printed : (at : ℤ) → IsInstant at → Printed at
printed at h =
    let since : at +ℤ pos 62_167_219_200_000 ≡ pos (ms_since_0000 at) =
    omega (arith, signed_arith, one_part (at +ℤ pos 62_167_219_200_000)) in
    let high : ms_since_0000 at < 3_652_425 * day_ms = omega (arith, signed_arith) in
    let date = date_of_number (ms_since_0000 at / day_ms) (omega arith) in
    let long = days_in_month_bounds (pos date.year) date.month in
    record {
      date = date;
      text_is = ap (λ text. text ++ 84 ∷ time_text (ms_since_0000 at % day_ms) ++ 90 ∷ [])
          (day_text-date date.year date.month date.day (ms_since_0000 at / day_ms) date.low
          date.civil_is date.counts);
      days = omega (arith, date.civil_is.2);
    }

-- and read
read_value : (at : ℤ) (is : Printed at) → IsInstant at
    → instant_from
    (sum_of (date_at (Some is.date.year) (Some is.date.month) (Some is.date.day))
    (Some (pos (ms_since_0000 at % day_ms)))) ≡ Some at
read_value at is h =
    let date = is.date in
    let since : at +ℤ pos 62_167_219_200_000 ≡ pos (ms_since_0000 at) =
    omega (arith, signed_arith, one_part (at +ℤ pos 62_167_219_200_000)) in
    let within : date.day ≤ days_of_month date.year date.month = date.civil_is.2.1 in
    let test = is_date-true date.year date.month date.day date.civil_is.1.0 date.civil_is.1.1
    date.civil_is.2.0 within in
    let value : days_from_civil (pos date.year) date.month date.day *ℤ pos day_ms +ℤ pos
    (ms_since_0000 at % day_ms) ≡ at = omega (arith, signed_arith, date.counts) in
    rw (test, value) (instant_at-within at h)

pub round_trip : (at : ℤ) → IsInstant at → instant_of (instant_text at) ≡ Some at
round_trip at h =
    let is = printed at h in
    ap instant_of is.text_is
    ∙ text_read is.date.year is.date.month is.date.day (ms_since_0000 at % day_ms) is.date.low
    (omega (arith, is.date.civil_is.1)) is.days (omega arith)
    ∙ read_value at is h
