-- The date at the front of a printed instant.
use Rattle.std.proofs.Common.{◌≡◌, ℕ, true, [], ◌∷◌, ◌++◌, take, ◌/◌, ◌%◌, ◌<◌, refl, ap, ◌∙◌}
use Rattle.std.proofs.Common.{arith, ℤ}
use Rattle.gm_base.proofs.Numbers.{digit_of}
use Rattle.gm_calendar.specs.Instant.{day_ms, IsInstant}
use Rattle.gm_calendar.specs.Spelling.{date_text, time_text, ms_since_0000, instant_text}
use Rattle.gm_calendar.specs.Spelling.{has_date_form}
use Rattle.gm_calendar.proofs.RoundTrip.{printed}

-- a date of four, two and two digits
date_form : (year month day : ℕ) → year < 10_000 → month < 100 → day < 100
    → has_date_form (date_text year month day) ≡ true
unfolding date_text
date_form year month day y m d =
    rw (
      digit_of (year / 100 / 10) (omega arith),
      digit_of (year / 100 % 10) (omega arith),
      digit_of (year % 100 / 10) (omega arith),
      digit_of (year % 100 % 10) (omega arith),
      digit_of (month / 10) (omega arith),
      digit_of (month % 10) (omega arith),
      digit_of (day / 10) (omega arith),
      digit_of (day % 10) (omega arith),
    ) refl

pub begins_with_date : (at : ℤ) → IsInstant at → has_date_form (take 10 (instant_text at)) ≡ true
begins_with_date at h =
    let is = printed at h in
    let date = is.date in
    let front : take 10
    (date_text date.year date.month date.day ++ 84 ∷ time_text (ms_since_0000 at % day_ms)
    ++ 90 ∷ []) ≡ date_text date.year date.month date.day = unfold date_text in refl in
    ap has_date_form (ap (take 10) is.text_is ∙ front)
    ∙ date_form date.year date.month date.day date.low (omega (arith, date.civil_is.1)) is.days
