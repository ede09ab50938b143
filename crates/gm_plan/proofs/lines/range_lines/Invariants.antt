use Rattle.std.proofs.Common.{◌≡◌, ◌++◌, drop, map}
use Rattle.gm_plan.specs.Lines.{line_of_range}
use Rattle.gm_plan.proofs.lines.range_lines.Given as goal

abbrev pub invariant-each : goal.invariant-each
invariant-each l =
    l.lines.items ++ map line_of_range (drop l.range-index l.range-items)
    ≡ map line_of_range l.of_ranges.ranges
