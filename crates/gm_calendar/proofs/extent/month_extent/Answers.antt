use Rattle.std.proofs.Common.{◌≡◌, ◌+◌, ◌/◌, ◌%◌, pos, arith}
use Rattle.jiff_core.proofs.SignedLemmas.{signed_casts, one_part}
use Rattle.jiff_core.proofs.CalendarLemmas.{days_in_month_bounds}
use Rattle.gm_calendar.proofs.BinStarts.{month_extent_lem}
use Rattle.gm_calendar.proofs.extent.month_extent.Goals as goal

pub day_from_1970-requires : goal.day_from_1970-requires
day_from_1970-requires c =
    let d = c.date-first.result in
    let year : d.year ≡ pos (1970 + c.args.bin_number / 12) = omega (arith, signed_casts) in
    let month : d.month ≡ c.args.bin_number % 12 + 1 = omega (arith, signed_casts) in
    let day : d.day ≡ 1 = omega (arith, signed_casts) in
    let is = month_extent_lem d c.args.bin_number year month day in
    omega (arith, signed_casts)

pub returns : goal.returns
returns c =
    let d = c.date-first.result in
    let year : d.year ≡ pos (1970 + c.args.bin_number / 12) = omega (arith, signed_casts) in
    let month : d.month ≡ c.args.bin_number % 12 + 1 = omega (arith, signed_casts) in
    let day : d.day ≡ 1 = omega (arith, signed_casts) in
    let is = month_extent_lem d c.args.bin_number year month day in
    let long = days_in_month_bounds d.year d.month in
    record {
      first_is = omega (arith, signed_casts);
      days_is = omega (arith, signed_casts, one_part);
    }
