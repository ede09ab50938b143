use Rattle.std.proofs.Common.{◌+ℤ◌, FitsSigned, w64, ◌∙◌, arith}
use Rattle.std.proofs.lemmas.Int.{to_z-of_z}
use Rattle.jiff_core.proofs.SignedLemmas.{signed_arith}
use Rattle.gm_calendar.proofs.Readings.{date_and_time}
use Rattle.gm_calendar.proofs.reader.read_instant.Goals as goal

pub returns : goal.returns
returns c =
    let date = c.in_ok-date.ensures in
    let time = c.in_ok-time.ensures in
    let low = date.bound in
    let high = time.bound in
    let date_fits : FitsSigned w64 c.in_ok-date.date = omega (arith, signed_arith) in
    let time_fits : FitsSigned w64 c.in_ok-time.time = omega (arith, signed_arith) in
    let sum_fits : FitsSigned w64 (c.in_ok-date.date +ℤ c.in_ok-time.time) =
    omega (arith, signed_arith) in
    let value = simp to_z-of_z at c.of.ensures.value in
    value ∙ date_and_time c.args.text.now c.split_at.result.0.now c.split_at.result.1.now
    c.in_ok-date.date c.in_ok-time.time c.split_at.ensures.front c.split_at.ensures.back
    date.value time.value
