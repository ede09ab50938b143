use Rattle.std.proofs.Common.{◌≡◌, map, take}
use Rattle.gm_plan.specs.KeyRanges.{code_range}
use Rattle.gm_plan.proofs.plane.code_ranges.Given as goal

abbrev pub invariant-runs : goal.invariant-runs
invariant-runs l = l.list.items ≡ map (code_range l.found.level) (take l.i l.found.runs)
