use Rattle.std.proofs.Common.{Some, ap, ◌∙◌, arith}
use Rattle.jiff_core.proofs.SignedLemmas.{signed_arith}
use Rattle.gm_calendar.proofs.Readings.{colon_seconds}
use Rattle.gm_calendar.proofs.reader.read_behind_minutes.Goals as goal

pub returns-clause-value : goal.returns-clause-value
returns-clause-value c =
    let seconds = c.in_ok-seconds.ensures in
    let behind = c.in_ok-read_behind_seconds.ensures in
    let low = seconds.bound in
    let high = behind.bound in
    ap Some (omega (arith, signed_arith))
    ∙ colon_seconds c.args.text.now c.in-Some.rest.now c.split_at.result.0.now
    c.split_at.result.1.now c.in-Some.mark.now c.in_ok-seconds.seconds
    c.in_ok-read_behind_seconds.field-0 c.in-Some.ensures.cases.0 c.if-mark-ne58.false
    c.split_at.ensures.front c.split_at.ensures.back seconds.value behind.value
