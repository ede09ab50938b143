use Rattle.std.proofs.Common.{arith}
use Rattle.jiff_core.proofs.SignedLemmas.{signed_casts, one_part}
use Rattle.jiff_core.proofs.CalendarLemmas.{days_in_month_bounds}
use Rattle.gm_calendar.proofs.BinStarts.{month_place_lem}
use Rattle.gm_calendar.proofs.bin_place.month_place.Goals as goal

pub returns : goal.returns
returns c =
    let date = c.date_from_1970-date in
    let d = date.result in
    let month = d.month_in in
    let day = d.day_in in
    let long = days_in_month_bounds d.year d.month in
    month_place_lem d _ _ c.args.ms _ (omega (arith, signed_casts, one_part))
    (omega (arith, signed_casts, one_part)) date.ensures.day
    (omega (arith, signed_casts, one_part))
