use Rattle.std.proofs.Common.{◌≡◌, ◌++◌, drop, map}
use Rattle.gm_plan.specs.Windows.{window_of}
use Rattle.gm_plan.proofs.windows.windows_of.Given as goal

abbrev pub invariant-boxes : goal.invariant-boxes
invariant-boxes l =
    l.windows.items ++ map (window_of l.bits) (drop l.extent-index l.boxes)
    ≡ map (window_of l.bits) l.boxes
