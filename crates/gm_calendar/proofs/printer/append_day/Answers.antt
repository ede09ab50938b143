use Rattle.std.proofs.Common.{◌≡◌, ◌++◌, pos, to_z, of_z, w8, w16, unsigned_abs, ap, ◌∙◌, arith}
use Rattle.std.specs.String.{string_bytes}
use Rattle.std.proofs.lemmas.Result.{on_ok_weaker}
use Rattle.jiff_core.proofs.SignedLemmas.{signed_casts, one_part}
use Rattle.jiff_core.proofs.CalendarLemmas.{days_in_month_bounds}
use Rattle.gm_calendar.proofs.Prints.{day_text-of_date}
use Rattle.gm_calendar.proofs.printer.append_day.Goals as goal

pub returns-clause-text : goal.returns-clause-text
returns-clause-text c =
    let date = c.date_from_0000-date in
    let d = date.result in
    let known = d.year_in in
    let low_month = d.month_in in
    let low_day = d.day_in in
    let long = days_in_month_bounds d.year d.month in
    let year = unsigned_abs (to_z w16 (of_z w16 c.year.result)) in
    let month = unsigned_abs (to_z w8 (of_z w8 c.month.result)) in
    let day = unsigned_abs (to_z w8 (of_z w8 c.day.result)) in
    let y : d.year ≡ pos year = omega (arith, signed_casts, one_part) in
    let m : d.month ≡ month = omega (arith, signed_casts, one_part) in
    let n : d.day ≡ day = omega (arith, signed_casts, one_part) in
    let same = day_text-of_date d year month day c.args.day date.ensures.day y m n
    (omega (arith, signed_casts, one_part)) in
    on_ok_weaker c.append_date.result
    (λ e. e ∙ ap (λ t. string_bytes c.args.text.now ++ t) same) c.append_date.ensures.text
