use Rattle.std.proofs.Common.{◌≡◌, ◌++◌, drop}
use Rattle.gm_plan.specs.Windows.{windows_in}
use Rattle.gm_plan.proofs.windows.windows_in.Given as goal

abbrev pub invariant-boxes : goal.invariant-boxes
invariant-boxes l =
    l.windows.items
    ++ windows_in l.period l.bits (drop l.extent-index l.boxes) l.intervals l.bin_number
    ≡ windows_in l.period l.bits l.boxes l.intervals l.bin_number
