use Rattle.std.proofs.Common.{arith}
use Rattle.jiff_core.proofs.SignedLemmas.{signed_casts, one_part}
use Rattle.jiff_core.proofs.CalendarLemmas.{day_of_year_bound, days_in_year_bounds}
use Rattle.jiff_core.proofs.DateLemmas.{civil}
use Rattle.gm_calendar.proofs.BinStarts.{year_place_lem}
use Rattle.gm_calendar.proofs.bin_place.year_place.Goals as goal

pub returns : goal.returns
returns c =
    let date = c.date_from_1970-date in
    let d = date.result in
    let bound = day_of_year_bound d.year d.month d.day (civil d) in
    let long = days_in_year_bounds d.year in
    year_place_lem d _ c.args.ms _ (omega (arith, signed_casts, one_part)) date.ensures.day
    (omega (arith, signed_casts, one_part))
