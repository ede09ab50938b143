use Rattle.std.proofs.Common.{◌≡◌, ◌++◌, drop, map, filter}
use Rattle.gm_plan.specs.Bins.{meets_bin}
use Rattle.gm_plan.specs.Windows.{window_in}
use Rattle.gm_plan.proofs.windows.push_windows.Given as goal

abbrev pub invariant-intervals : goal.invariant-intervals
invariant-intervals l =
    l.windows.items
    ++ map (window_in l.period l.bits l.bin_number l.extent)
    (filter (meets_bin l.period l.bin_number) (drop l.interval-index l.intervals))
    ≡ l.fn.windows.items
    ++ map (window_in l.period l.bits l.bin_number l.extent)
    (filter (meets_bin l.period l.bin_number) l.intervals)
