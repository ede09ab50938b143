use Rattle.std.proofs.Common.{◌≡◌, ◌++◌, List}
use Rattle.gm_bounds.specs.declared.byte_range.ByteRange.{ByteRange}
use Rattle.gm_plan.specs.Merging.{merged_in, pending}
use Rattle.gm_plan.proofs.merging.merged_in.Given as goal

abbrev pub invariant-each : goal.invariant-each
invariant-each l =
    (rest : List ByteRange) → l.all.items ++ pending l.kept rest
    ≡ merged_in l.fn.range (l.yielded ++ rest)
