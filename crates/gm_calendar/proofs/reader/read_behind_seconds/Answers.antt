use Rattle.std.proofs.Common.{Some, ap, ◌∙◌, arith}
use Rattle.jiff_core.proofs.SignedLemmas.{signed_arith}
use Rattle.gm_calendar.proofs.Readings.{point_digits_zone}
use Rattle.gm_calendar.proofs.reader.read_behind_seconds.Goals as goal

pub returns-clause-value : goal.returns-clause-value
returns-clause-value c =
    let fraction = c.in_ok-fraction.ensures in
    let zone = c.in_ok-read_zone.ensures in
    let low = fraction.bound in
    let high = zone.bound in
    ap Some (omega (arith, signed_arith))
    ∙ point_digits_zone c.args.text.now c.in-Some.rest.now c.split_at.result.0.now
    c.split_at.result.1.now c.in-Some.mark.now c.count_digits.result c.in_ok-fraction.fraction
    c.in_ok-read_zone.field-0 c.in-Some.ensures.cases.0 c.if-mark-ne46.false
    c.count_digits.ensures.value c.split_at.ensures.front c.split_at.ensures.back
    fraction.value zone.value
