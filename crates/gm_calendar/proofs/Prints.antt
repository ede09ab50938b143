-- Printed instants: the date by years and months laid end to end, and the text read again.
use Rattle.std.proofs.Common.{◌≡◌, ℕ, zero, suc, Option, Some, None, MatchOption, ◌+◌, ◌-◌, ◌<◌}
use Rattle.std.proofs.Common.{◌≤◌, refl, sym, subst, arith, ℤ, pos, ◌+ℤ◌, ◌≤ℤ◌}
use Rattle.std.proofs.lemmas.Int.{by_lt_z}
use Rattle.jiff_core.specs.declared.civil.date.Date.{Date}
use Rattle.jiff_core.specs.Date.{epoch_day}
use Rattle.jiff_core.specs.Calendar.{day_count, day_of_year, days_in_year, days_in_month}
use Rattle.jiff_core.specs.Calendar.{days_of_months, days_from_civil, IsCivilDate}
use Rattle.jiff_core.proofs.SignedLemmas.{signed_arith}
use Rattle.jiff_core.proofs.MarchLemmas.{day_count-early}
use Rattle.jiff_core.proofs.DateLemmas.{civil}
use Rattle.jiff_core.proofs.CalendarLemmas.{day_count-end, day_count-next_year, day_count-lt_year}
use Rattle.jiff_core.proofs.CalendarLemmas.{day_count-day_of_year, day_of_year_bound}
use Rattle.jiff_core.proofs.CalendarLemmas.{days_from_civil-day_count, days_of_months-zero}
use Rattle.jiff_core.proofs.CalendarLemmas.{days_of_months_all}
use Rattle.gm_calendar.specs.Calendar.{days_of_month, days_of_year, days_of_nth_month, span_at}
use Rattle.gm_calendar.specs.Spelling.{date_text, day_text}
use Rattle.gm_calendar.proofs.BinLaws.{AreStarts, span_at-within}
use Rattle.gm_calendar.proofs.BinOrder.{span_at-tells, Fell}

-- the days before a year, from 0000-01-01 on
abbrev years_start : ℕ → ℕ
years_start year = day_count (pos year) 1 1 - 3_652_425

day_count-year_zero : day_count (pos 0) 1 1 ≡ 3_652_425
day_count-year_zero =
    day_count-early (pos 0) 9999 1 1 refl (omega arith) (omega arith) (omega arith)

years_after_zero : (year : ℕ) → 3_652_425 ≤ day_count (pos year) 1 1
years_after_zero zero = omega (arith, day_count-year_zero)
years_after_zero (suc year) =
    omega (
      arith,
      years_after_zero year,
      day_count-next_year (pos year) (pos (suc year)) (omega (arith, signed_arith))
          (omega (arith, signed_arith)),
    )

are_year_starts : AreStarts days_of_year years_start
are_year_starts year =
    let same : days_of_year year ≡ days_in_year (pos year) = refl in
    omega (
      arith,
      years_after_zero year,
      day_count-next_year (pos year) (pos (suc year)) (omega (arith, signed_arith))
          (omega (arith, signed_arith)),
    )

are_month_starts : (year : ℕ) → AreStarts (days_of_nth_month year) (days_of_months (pos year))
unfolding days_of_months
are_month_starts year n = let next : suc n ≡ n + 1 = omega arith in rw next refl

-- the parts of a day counted from 0000-01-01, by its date
pub day_text-date : (year month day number : ℕ) → year < 10_000 → IsCivilDate (pos year) month day
    → days_from_civil (pos year) month day +ℤ pos 719_528 ≡ pos number
    → day_text (span_at days_of_year 10_000 0 number) ≡ date_text year month day
day_text-date year month day number low is e =
    let count = days_from_civil-day_count (pos year) month day in
    let rest = day_of_year (pos year) month day in
    let whole = day_count-day_of_year (pos year) month day is.2.0 in
    let bound = day_of_year_bound (pos year) month day is in
    let first = day_count-year_zero in
    let after = years_after_zero year in
    let year_is = span_at-within days_of_year years_start are_year_starts 10_000 0 year (rest - 1)
    number (omega arith) (omega arith) (omega (arith, is.2.0))
    (omega (arith, signed_arith, is.2.0)) in
    let m : month - 1 + 1 ≡ month = omega (arith, is.1) in
    let d : day - 1 + 1 ≡ day = omega (arith, is.2.0) in
    let last : day ≤ days_of_month year month = is.2.1 in
    let within : day - 1 < days_of_nth_month year (month - 1) = rw m (omega (arith, is.2.0)) in
    let month_is =
    span_at-within (days_of_nth_month year) (days_of_months (pos year)) (are_month_starts year)
    12 0 (month - 1) (day - 1) (rest - 1) (omega arith) (omega (arith, is.1)) within
    (omega (arith, is.2.0, days_of_months-zero (pos year))) in
    rw (year_is, month_is, m, d) refl

-- a date whose day number is not before that of 0000-01-01
pub year_from_zero : (d : Date) (number : ℕ) → epoch_day d +ℤ pos 719_528 ≡ pos number
    → pos 0 ≤ℤ d.year
year_from_zero d number e =
    by_lt_z d.year (pos 0)
    (λ lt. absurd (omega (
      arith,
      signed_arith,
      days_from_civil-day_count,
      day_count-year_zero,
      day_count-lt_year d.year d.month d.day (pos 0) 1 1 (civil d) (omega arith) lt,
    )))
    (λ le. le)

-- the same for a date of `jiff`
pub day_text-of_date : (d : Date) (year month day number : ℕ)
    → epoch_day d +ℤ pos 719_528 ≡ pos number → d.year ≡ pos year → d.month ≡ month → d.day ≡ day
    → year < 10_000 → date_text year month day ≡ day_text (span_at days_of_year 10_000 0 number)
day_text-of_date d year month day number e y m n low =
    let Is : ℤ → Type 0 = λ z. days_from_civil z month day +ℤ pos 719_528 ≡ pos number in
    let Civil : ℤ → Type 0 = λ z. IsCivilDate z month day in
    let parts : days_from_civil d.year month day +ℤ pos 719_528 ≡ pos number = rw (← m, ← n) e in
    let is : IsCivilDate d.year month day = rw (← m, ← n) (civil d) in
    sym (day_text-date year month day number low (subst Civil y is) (subst Is y parts))

-- a date whose day number from 0000-01-01 is the number
pub record DateOf (number : ℕ) : Type 0 where
  pub year : ℕ
  pub month : ℕ
  pub day : ℕ
  pub low : year < 10_000
  pub civil_is : IsCivilDate (pos year) month day
  pub counts : days_from_civil (pos year) month day +ℤ pos 719_528 ≡ pos number

date_in_year : (number year rest : ℕ) (found : Option (ℕ × ℕ)) → year < 10_000
    → rest < days_of_year year → number ≡ years_start year + rest
    → MatchOption found (days_of_months (pos year) (0 + 12) ≤ days_of_months (pos year) 0 + rest)
    (Fell (days_of_nth_month year) (days_of_months (pos year)) 12 0 rest) → DateOf number
date_in_year number year rest None low within e past =
    absurd (omega (arith, days_of_months-zero (pos year), days_of_months_all (pos year)))
date_in_year number year rest (Some at) low within e fell =
    let month : at.0 + 1 - 1 ≡ at.0 = omega arith in
    let last : at.1 + 1 ≤ days_in_month (pos year) (at.0 + 1) = omega (arith, fell.2) in
    let is : IsCivilDate (pos year) (at.0 + 1) (at.1 + 1) = (
      (omega (arith, signed_arith), omega (arith, signed_arith)),
      (omega arith, omega (arith, fell.1)),
      (omega arith, last),
    ) in
    let whole = rw month at
    (day_count-day_of_year (pos year) (at.0 + 1) (at.1 + 1) (omega arith)) in
    let count = days_from_civil-day_count (pos year) (at.0 + 1) (at.1 + 1) in
    record {
      year = year;
      month = at.0 + 1;
      day = at.1 + 1;
      low = low;
      civil_is = is;
      counts = omega
          (arith, signed_arith, days_of_months-zero (pos year), years_after_zero year, fell.3);
    }

date_in_years : (number : ℕ) (found : Option (ℕ × ℕ)) → number < 3_652_425
    → MatchOption found (years_start (0 + 10_000) ≤ years_start 0 + number)
    (Fell days_of_year years_start 10_000 0 number) → DateOf number
date_in_years number None high past = absurd (omega (arith, day_count-end, day_count-year_zero))
date_in_years number (Some at) high fell =
    date_in_year number at.0 at.1 (span_at (days_of_nth_month at.0) 12 0 at.1)
    (omega (arith, fell.1)) fell.2 (omega (arith, fell.3, day_count-year_zero))
    (span_at-tells (days_of_nth_month at.0) (days_of_months (pos at.0))
    (are_month_starts at.0) 12 0 at.1)

-- each day of the years 0000 to 9999 has a date
pub date_of_number : (number : ℕ) → number < 3_652_425 → DateOf number
date_of_number number high =
    date_in_years number (span_at days_of_year 10_000 0 number) high
    (span_at-tells days_of_year years_start are_year_starts 10_000 0 number)
