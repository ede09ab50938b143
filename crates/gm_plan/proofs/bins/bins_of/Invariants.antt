use Rattle.std.proofs.Common.{◌≡◌, ◌+◌, ◌≤◌, filter}
use Rattle.std.specs.List.{range_with_len}
use Rattle.gm_calendar.specs.Period.{last_of}
use Rattle.gm_plan.specs.Bins.{is_met}
use Rattle.gm_plan.proofs.bins.bins_of.Given as goal

abbrev pub invariant-bins : goal.invariant-bins
invariant-bins l = record {
  value : l.bins.items ≡ filter (is_met l.period l.intervals) (range_with_len 0 l.bin);
  within : l.bin ≤ last_of l.period + 1;
}
