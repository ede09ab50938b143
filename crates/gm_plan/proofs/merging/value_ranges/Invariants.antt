use Rattle.std.proofs.Common.{◌≡◌, map}
use Rattle.gm_plan.specs.KeyRanges.{value_range}
use Rattle.gm_plan.proofs.merging.value_ranges.Given as goal

abbrev pub invariant-merged : goal.invariant-merged
invariant-merged l = l.ranges.items ≡ map value_range l.yielded
