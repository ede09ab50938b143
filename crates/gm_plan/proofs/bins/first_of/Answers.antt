use Rattle.std.proofs.Common.{rules}
use mir.Val.{SFits}
use mir.Syntax.{w64}
use Rattle.gm_calendar.specs.Bin.{first_ms}
use Rattle.gm_plan.proofs.Times.{none_before_at, at_low}
use Rattle.gm_plan.proofs.bins.first_of.Goals as goal

pub returns-in-Some-clause-none : goal.returns-in-Some-clause-none
returns-in-Some-clause-none c =
    let fits : SFits w64 c.in-Some.low = search rules in
    λ number less. none_before_at c.args.period c.bins_follow_time.ensures.starts c.args.interval
    c.in-Some.low c.in-Some.is number c.number_of.result less
    (at_low (first_ms c.args.period c.number_of.result) c.in-Some.low c.max.result c.min.result
    253402300799999 fits (record { sfits = c.max.type_inv }) (record { sfits = c.min.type_inv })
    c.max.ensures.value c.min.ensures.value c.number_of.ensures.before)
