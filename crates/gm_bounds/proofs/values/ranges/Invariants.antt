use Rattle.std.proofs.Common.{◌≡◌, ◌++◌, drop}
use Rattle.gm_bounds.specs.Lists.{kept}
use Rattle.gm_bounds.specs.ByteRange.{is_void}
use Rattle.gm_bounds.specs.Values.{ranges_of}
use Rattle.gm_bounds.proofs.values.ranges.Given as goal

abbrev pub invariant-literals : goal.invariant-literals
invariant-literals l =
    l.list.items ++ kept is_void (ranges_of l.kind (drop l.literal-index l.literals))
    ≡ kept is_void (ranges_of l.kind l.literals)
