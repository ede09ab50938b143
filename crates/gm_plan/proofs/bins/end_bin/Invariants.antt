use Rattle.std.proofs.Common.{◌≡◌, ◌≤◌, ◌+◌, ℕ, drop}
use Rattle.gm_calendar.specs.Period.{last_of}
use Rattle.gm_plan.specs.Bins.{is_met}
use Rattle.gm_plan.proofs.bins.end_bin.Given as goal

abbrev pub invariant-intervals : goal.invariant-intervals
invariant-intervals l = record {
  within : l.end ≤ last_of l.period + 1;
  none : (number : ℕ) → l.end ≤ number → number ≤ last_of l.period
      → is_met l.period l.intervals number
      ≡ is_met l.period (drop l.interval-index l.intervals) number;
}
