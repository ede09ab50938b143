-- Dates that are spelled, and dates of `jiff`.
use Rattle.std.proofs.Common.{◌≡◌, ℕ, true, Some, ◌≤◌, refl, subst, arith, ℤ, pos, ◌*ℤ◌}
use Rattle.std.proofs.lemmas.Bool.Decides.{nat_tests}
use Rattle.jiff_core.specs.declared.civil.date.Date.{Date}
use Rattle.jiff_core.specs.Date.{epoch_day}
use Rattle.jiff_core.specs.Calendar.{days_in_month}
use Rattle.gm_calendar.specs.Calendar.{days_of_month}
use Rattle.gm_calendar.specs.Instant.{day_ms}
use Rattle.gm_calendar.specs.Spelling.{is_date, date_at}

pub is_date-true : (year month day : ℕ) → 1 ≤ month → month ≤ 12 → 1 ≤ day
    → day ≤ days_of_month year month → is_date year month day ≡ true
is_date-true year month day a b c d = grind (arith, nat_tests)

-- the first millisecond of a date of `jiff`
pub date_at-date : (d : Date) (year month day : ℕ) → d.year ≡ pos year → d.month ≡ month
    → d.day ≡ day → Some (epoch_day d *ℤ pos day_ms) ≡ date_at (Some year) (Some month) (Some day)
date_at-date d year month day y m n =
    let Within : ℤ → Type 0 = λ z. d.day ≤ days_in_month z d.month in
    let within : d.day ≤ days_of_month year d.month = subst Within y d.day_in.1 in
    let test = is_date-true year d.month d.day d.month_in.0 d.month_in.1 d.day_in.0 within in
    rw (← m, ← n, test, y) refl
