use Rattle.std.proofs.Common.{arith}
use Rattle.jiff_core.proofs.SignedLemmas.{signed_casts}
use Rattle.gm_calendar.proofs.BinLaws.{bin_start-next}
use Rattle.gm_calendar.proofs.bin.bin_span.Goals as goal

pub returns-clause-last : goal.returns-clause-last
returns-clause-last c =
    let next = bin_start-next c.args.period c.args.bin_number in
    let is = c.extent_of-extent.ensures in
    let first = is.first_is in
    let days = is.days_is in
    omega (arith, signed_casts)
