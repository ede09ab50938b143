use Rattle.std.proofs.Common.{arith, FitsSigned, w64, ◌∙◌}
use Rattle.jiff.proofs.SpanFacts.{signed_arith, date_add-days, can_add-days}
use Rattle.std.proofs.lemmas.Int.{to_z-of_z}
use Rattle.gm_calendar.proofs.BinStarts.{epoch_is_zero}
use Rattle.gm_calendar.proofs.calendar.date_of_day.Goals as goal

pub unwrap-requires : goal.unwrap-requires
unwrap-requires c =
    let fits : FitsSigned w64 c.args.day = c.ranges.day in
    let only = simp to_z-of_z at c.days.ensures in
    let epoch = epoch_is_zero c.date.result c.date.ensures in
    let can = can_add-days c.date.result c.args.day c.days.result only in
    c.checked_add.ensures.succeeds.1 (can.1 (rw epoch (omega (arith, signed_arith))))

pub returns : goal.returns
returns c =
    let fits : FitsSigned w64 c.args.day = c.ranges.day in
    let only = simp to_z-of_z at c.days.ensures in
    let epoch = epoch_is_zero c.date.result c.date.ensures in
    let sum = date_add-days c.date.result c.args.day c.days.result only in
    let value = rw c.unwrap.ensures at c.checked_add.ensures.value in
    rw epoch at (value ∙ sum) ∙ omega (arith, signed_arith)
