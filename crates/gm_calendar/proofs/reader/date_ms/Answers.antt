use Rattle.std.proofs.Common.{◌≡◌, Some, pos, ap, ◌∙◌, arith}
use Rattle.jiff_core.proofs.SignedLemmas.{signed_casts}
use Rattle.gm_calendar.proofs.Dates.{date_at-date}
use Rattle.gm_calendar.proofs.reader.date_ms.Goals as goal

pub returns-clause-value : goal.returns-clause-value
returns-clause-value c =
    let d = c.in-Ok.date in
    let is = c.in-Ok.ensures.value in
    let year : d.year ≡ pos c.args.year = omega (arith, signed_casts, is.0) in
    let month : d.month ≡ c.args.month = omega (arith, signed_casts, is.1) in
    let day : d.day ≡ c.args.day = omega (arith, signed_casts, is.2) in
    let plain = c.to_plain.ensures in
    let number = rw plain at c.to_unix_epoch_day.ensures.value in
    let bound = c.to_unix_epoch_day.ensures.bound in
    ap Some (omega (arith, signed_casts))
    ∙ date_at-date d c.args.year c.args.month c.args.day year month day
