use Rattle.std.proofs.Common.{◌≡◌, ◌++◌, map, take}
use Rattle.gm_plan.specs.KeyRanges.{bin_range}
use Rattle.gm_plan.proofs.space.push_ranges.Given as goal

abbrev pub invariant-runs : goal.invariant-runs
invariant-runs l =
    l.list.items
    ≡ l.fn.list.items ++ map (bin_range l.bin_number l.found.level) (take l.i l.found.runs)
