use Rattle.std.proofs.Common.{◌≡◌, ◌++◌, drop}
use Rattle.gm_bounds.specs.Lists.{kept}
use Rattle.gm_bounds.specs.Interval.{is_void}
use Rattle.gm_bounds.specs.Time.{instants_of}
use Rattle.gm_bounds.proofs.time.instants.Given as goal

abbrev pub invariant-literals : goal.invariant-literals
invariant-literals l =
    l.list.items ++ kept is_void (instants_of (drop l.literal-index l.literals))
    ≡ kept is_void (instants_of l.literals)
