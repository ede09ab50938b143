use Rattle.std.proofs.Common.{rules, ◌<◌, ◌≤◌, arith}
use mir.Val.{SFits}
use mir.Syntax.{w64}
use Rattle.gm_calendar.specs.Bin.{last_ms}
use Rattle.gm_calendar.specs.Period.{last_of}
use Rattle.gm_plan.proofs.Times.{none_behind_at, at_high}
use Rattle.gm_plan.proofs.bins.end_of.Goals as goal

pub returns-else-high-gt-LAST_MS-clause-none : goal.returns-else-high-gt-LAST_MS-clause-none
returns-else-high-gt-LAST_MS-clause-none c =
    let fits : SFits w64 c.in-Some.high = search rules in
    λ number low high.
    let less : c.number_of.result < number = omega arith in
    let few : c.number_of.result ≤ last_of c.args.period = omega arith in
    none_behind_at c.args.period c.bins_follow_time.ensures.starts c.args.interval c.in-Some.high
    c.in-Some.is number c.number_of.result less
    (at_high (last_ms c.args.period c.number_of.result) c.in-Some.high c.max.result fits
    (record { sfits = c.max.type_inv }) c.max.ensures.value (c.number_of.ensures.behind few))
