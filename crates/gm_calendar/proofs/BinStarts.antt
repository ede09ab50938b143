-- The starts of bins, and the day numbers of the first of a month and of a year.
use Rattle.std.proofs.Common.{◌/◌, ◌%◌, ◌≡◌, ℕ, zero, suc, ◌+◌, ◌-◌, ◌*◌, ◌<◌, ◌≤◌, false, inl, inr}
use Rattle.std.proofs.Common.{nat_eq, refl, sym, subst, arith, ℤ, pos, ◌≤ℤ◌}
use Rattle.std.proofs.lemmas.Bool.{cases_order}
use Rattle.std.proofs.lemmas.Bool.Decides.{nat_tests}
use Rattle.std.proofs.lemmas.Int.{by_lt_z}
use Rattle.jiff_core.specs.declared.civil.date.Date.{Date}
use Rattle.jiff_core.specs.Date.{epoch_day, ordinal, month_length, IsYmd}
use Rattle.jiff_core.proofs.DateLemmas.{civil}
use Rattle.jiff_core.specs.Calendar.{day_count, days_in_year, days_in_month, days_from_civil}
use Rattle.jiff_core.proofs.SignedLemmas.{signed_arith}
use Rattle.jiff_core.proofs.CalendarLemmas.{day_count-epoch, day_count-next_month}
use Rattle.jiff_core.proofs.CalendarLemmas.{day_count-next_year, day_count-day}
use Rattle.jiff_core.proofs.CalendarLemmas.{day_count-day_of_year, days_from_civil-day_count}
use Rattle.jiff_core.proofs.CalendarLemmas.{day_count-lt_year, day_count-last_of_year}
use Rattle.jiff_core.proofs.CalendarLemmas.{day_of_year_bound}
use Rattle.gm_calendar.specs.declared.period.Period.TheVariants.{Day, Week, Month, Year}
use Rattle.gm_calendar.specs.Calendar.{days_of_month, days_of_year}
use Rattle.gm_calendar.specs.Instant.{day_ms}
use Rattle.gm_calendar.specs.BinPlace.{IsBinPlace}
use Rattle.gm_calendar.specs.Bin.{next_month, month_at, days_of_bin, bin_start}

-- days and weeks start at multiples of their length
pub bin_start-day : (n : ℕ) → bin_start Day n ≡ n
unfolding bin_start
bin_start-day zero = refl
bin_start-day (suc n) = omega (arith, bin_start-day n)

pub bin_start-week : (n : ℕ) → bin_start Week n ≡ n * 7
unfolding bin_start
bin_start-week zero = refl
bin_start-week (suc n) = omega (arith, bin_start-week n)

pub days_of_year-is : (y : ℕ) → days_of_year y ≡ days_in_year (pos y)
days_of_year-is y = refl

-- a year starts on its first of January
pub bin_start-year : (n : ℕ) → day_count (pos (1970 + n)) 1 1 ≡ bin_start Year n + 4_371_953
unfolding bin_start
bin_start-year zero = day_count-epoch
bin_start-year (suc n) =
    omega (
      arith,
      bin_start-year n,
      day_count-next_year (pos (1970 + n)) (pos (1970 + suc n)) (omega (arith, signed_arith))
          (omega (arith, signed_arith)),
      days_of_year-is (1970 + n),
    )

-- months are numbered from 1 to 12
pub month_at_bounds : (n : ℕ) → (1 ≤ (month_at n).month) × ((month_at n).month ≤ 12)
unfolding month_at
month_at_bounds zero = (omega arith, omega arith)
month_at_bounds (suc n) = let h = month_at_bounds n in grind arith

-- the first of January follows the days of December
first_of_january : (y : ℕ) → day_count (pos (y + 1)) 1 1 ≡ day_count (pos y) 12 1 + 31
first_of_january y =
    omega (
      arith,
      day_count-next_year (pos y) (pos (y + 1)) (omega (arith, signed_arith)) refl,
      day_count-last_of_year (pos y),
      day_count-day (pos y) 12 1 31 (omega arith) (omega arith),
    )

-- the first of the month after a month
first_of_next : (y m : ℕ) → 1 ≤ m → m ≤ 12
    → day_count (pos (next_month record { year = y; month = m }).year)
    (next_month record { year = y; month = m }).month 1
    ≡ day_count (pos y) m 1 + days_of_month y m
first_of_next y m low high =
    elim (cases_order m 12) [
      | inl last ↦ rw last (first_of_january y)
      | inr (inl before) ↦ let other : nat_eq m 12 ≡ false = grind (arith, nat_tests) in
          rw other (day_count-next_month (pos y) m low)
      | inr (inr after) ↦ absurd (omega arith)
    ]

-- a month starts on its first day
pub bin_start-month : (n : ℕ)
    → day_count (pos (month_at n).year) (month_at n).month 1 ≡ bin_start Month n + 4_371_953
unfolding bin_start month_at
bin_start-month zero = day_count-epoch
bin_start-month (suc n) =
    let h = month_at_bounds n in
    omega (arith, bin_start-month n, first_of_next (month_at n).year (month_at n).month h.0 h.1)

-- a month that is not December is followed by the next of its year
month_at-next : (n y m : ℕ) → month_at n ≡ record { year = y; month = m } → m < 12
    → month_at (suc n) ≡ record { year = y; month = m + 1 }
unfolding month_at
month_at-next n y m e h = let other : nat_eq m 12 ≡ false = grind (arith, nat_tests) in
    rw (e, other) refl

-- the month with that number
pub month_at-number : (years m : ℕ) → m < 12
    → month_at (years * 12 + m) ≡ record { year = 1970 + years; month = m + 1 }
unfolding month_at
month_at-number zero zero h = refl
month_at-number (suc years) zero h =
    let back : suc years * 12 + 0 ≡ suc (years * 12 + 11) = omega arith in
    let year : 1970 + years + 1 ≡ 1970 + suc years = omega arith in
    rw (back, month_at-number years 11 (omega arith), year) refl
month_at-number years (suc m) h =
    let back : years * 12 + suc m ≡ suc (years * 12 + m) = omega arith in
    let step : m + 1 ≡ suc m = omega arith in
    rw back (rw step at
    (month_at-next (years * 12 + m) (1970 + years) (m + 1)
    (month_at-number years m (omega arith)) (omega arith)))

-- a date whose day number is not negative is not before 1970
pub year_from_1970 : (d : Date) → pos 0 ≤ℤ epoch_day d → pos 1970 ≤ℤ d.year
year_from_1970 d h =
    by_lt_z d.year (pos 1970)
    (λ lt. absurd (omega (
      arith,
      signed_arith,
      days_from_civil-day_count,
      day_count-epoch,
      day_count-lt_year d.year d.month d.day (pos 1970) 1 1 (civil d) (omega arith) lt,
    )))
    (λ le. le)

-- 1970-01-01 is day 0
pub epoch_is_zero : (d : Date) → IsYmd (pos 1970) (pos 1) (pos 1) d → epoch_day d ≡ pos 0
epoch_is_zero d h =
    let year : d.year ≡ pos 1970 = h.0 in
    let month : d.month ≡ 1 = omega (arith, signed_arith) in
    let day : d.day ≡ 1 = omega (arith, signed_arith) in
    rw (year, month, day) (omega (arith, signed_arith, days_from_civil-day_count, day_count-epoch))

-- the place of a day among the months, by its year since 1970, its month from 0 and its day
month_place_by_parts : (years m day ms : ℕ) → m < 12 → 1 ≤ day
    → day ≤ days_of_month (1970 + years) (m + 1)
    → days_from_civil (pos (1970 + years)) (m + 1) day ≡ pos (ms / day_ms)
    → IsBinPlace Month ms record
    { number = years * 12 + m; rest = (day - 1) * day_ms + ms % day_ms }
month_place_by_parts years m day ms low first last e =
    let at = month_at-number years m low in
    let start = rw at at (bin_start-month (years * 12 + m)) in
    let same = days_from_civil-day_count (pos (1970 + years)) (m + 1) day in
    let within = day_count-day (pos (1970 + years)) (m + 1) day 1 first (omega arith) in
    record { above = omega (arith, signed_arith); below = rw at (omega arith) }

pub month_place_lem : (d : Date) (years month ms rest : ℕ) → d.year ≡ pos (1970 + years)
    → month ≡ d.month → epoch_day d ≡ pos (ms / day_ms) → rest ≡ (d.day - 1) * day_ms + ms % day_ms
    → IsBinPlace Month ms record { number = years * 12 + (month - 1); rest = rest }
month_place_lem d years _ ms rest year same e r =
    let month : d.month - 1 + 1 ≡ d.month = omega (arith, d.month_in) in
    let Within : ℤ → Type 0 = λ y. d.day ≤ days_in_month y d.month in
    let Is : ℤ → Type 0 = λ y. days_from_civil y d.month d.day ≡ pos (ms / day_ms) in
    rw (same, r) (month_place_by_parts years (d.month - 1) d.day ms (omega (arith, d.month_in))
    d.day_in.0 (rw month (subst Within year d.day_in.1)) (rw month (subst Is year e)))

pub year_place_lem : (d : Date) (years ms rest : ℕ) → d.year ≡ pos (1970 + years)
    → epoch_day d ≡ pos (ms / day_ms) → rest ≡ (ordinal d - 1) * day_ms + ms % day_ms
    → IsBinPlace Year ms record { number = years; rest = rest }
year_place_lem d years ms rest year e r =
    let Starts : ℤ → Type 0 = λ y. day_count y 1 1 ≡ bin_start Year years + 4_371_953 in
    let start = subst Starts (sym year) (bin_start-year years) in
    let same = days_from_civil-day_count d.year d.month d.day in
    let within = day_count-day_of_year d.year d.month d.day d.day_in.0 in
    let long = day_of_year_bound d.year d.month d.day (civil d) in
    let Long : ℤ → Type 0 = λ y. ordinal d ≤ days_in_year y in
    let size : ordinal d ≤ days_of_bin Year years = subst Long year long in
    let first = d.day_in.0 in
    record { above = omega (arith, signed_arith); below = omega arith }

-- the days of a month that has that number, from a date on its first day
pub month_extent_lem : (d : Date) (n : ℕ) → d.year ≡ pos (1970 + n / 12) → d.month ≡ n % 12 + 1
    → d.day ≡ 1 → (epoch_day d ≡ pos (bin_start Month n)) × (month_length d ≡ days_of_bin Month n)
month_extent_lem d n year month day =
    let number : n / 12 * 12 + n % 12 ≡ n = omega arith in
    let at = rw number at (month_at-number (n / 12) (n % 12) (omega arith)) in
    let start = rw at at (bin_start-month n) in
    let same = days_from_civil-day_count (pos (1970 + n / 12)) (n % 12 + 1) 1 in
    (rw (year, month, day) (omega (arith, signed_arith)), rw (year, month, at) refl)

-- and of a year
pub year_extent_lem : (d : Date) (n : ℕ) → d.year ≡ pos (1970 + n) → d.month ≡ 1 → d.day ≡ 1
    → (epoch_day d ≡ pos (bin_start Year n)) × (days_in_year d.year ≡ days_of_bin Year n)
year_extent_lem d n year month day =
    let start = bin_start-year n in
    let same = days_from_civil-day_count (pos (1970 + n)) 1 1 in
    (rw (year, month, day) (omega (arith, signed_arith)), rw year refl)
