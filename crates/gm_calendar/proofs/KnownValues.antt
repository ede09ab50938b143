-- Values that the calendar and the forms of instants give, so that a wrong definition does not
-- check.
use Rattle.std.proofs.Common.{◌≡◌, [], ◌∷◌, map, true, false, Some, None, refl, pos, negsuc}
use Rattle.std.specs.Prelude.{codes}
use Rattle.jiff_core.specs.Calendar.{days_of_years, days_of_months, day_count, days_from_civil}
use Rattle.gm_calendar.specs.declared.period.Period.TheVariants.{Week, Month, Year}
use Rattle.gm_calendar.specs.Calendar.{is_leap, span_at}
use Rattle.gm_calendar.specs.Bin.{month_at, bin_start, bin_at, last_ms}
use Rattle.gm_calendar.specs.Spelling.{instant_of, instant_text, date_text, second_text, time_text}

pub leap_years : map is_leap (1600 ∷ 1900 ∷ 2000 ∷ 2024 ∷ 2100 ∷ [])
    ≡ true ∷ false ∷ true ∷ true ∷ false ∷ []
leap_years = refl

-- the year 8029 of the bins is 9999, and the years from 1970 to 2019 and the months of them have
-- 18,262 days
pub known_starts : (bin_start Month 600 ≡ 18_262) × (bin_start Year 50 ≡ 18_262)
    × (last_ms Year 8_029 ≡ pos 253_402_300_799_999)
unfolding bin_start month_at
known_starts = (refl, refl, refl)

pub known_bins : (bin_at Week (pos 1_577_836_800_000)
    ≡ Some record { number = 2_608; offset = 518_400 })
    × (bin_at Month (pos 1_577_836_800_000) ≡ Some record { number = 600; offset = 0 })
    × (bin_at Year (pos 1_577_836_800_000) ≡ Some record { number = 50; offset = 0 })
    × (bin_at Week (negsuc 0) ≡ None)
unfolding span_at month_at
known_bins = (refl, refl, refl, refl)

pub known_texts : (instant_of (codes "2020-01-01T12:30+01:00") ≡ Some (pos 1_577_878_200_000))
    × (instant_of (codes "2024-02-29T00:00:00.1239Z") ≡ Some (pos 1_709_164_800_123))
    × (instant_of (codes "2020-02-30") ≡ None) × (instant_of (codes "2020-01-01Z") ≡ None)
    × (instant_of (codes "9999-12-31T23:59-00:01") ≡ None)
unfolding days_of_years days_of_months day_count days_from_civil
known_texts = (refl, refl, refl, refl, refl)

pub known_print : instant_text (pos 1_577_836_800_000) ≡ codes "2020-01-01T00:00:00.000Z"
unfolding span_at date_text second_text time_text
known_print = refl
