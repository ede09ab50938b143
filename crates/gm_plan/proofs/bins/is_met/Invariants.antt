use Rattle.std.proofs.Common.{◌≡◌, drop}
use Rattle.gm_plan.specs.Bins.{is_met}
use Rattle.gm_plan.proofs.bins.is_met.Given as goal

abbrev pub invariant-intervals : goal.invariant-intervals
invariant-intervals l =
    is_met l.period (drop l.interval-index l.intervals) l.bin_number
    ≡ is_met l.period l.intervals l.bin_number
