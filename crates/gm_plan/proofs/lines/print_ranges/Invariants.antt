use Rattle.std.proofs.Common.{◌≡◌, ◌++◌, drop, map}
use Rattle.std.specs.String.{string_bytes}
use Rattle.gm_plan.specs.Lines.{line_of_range, text_of_lines}
use Rattle.gm_plan.proofs.lines.print_ranges.Given as goal

abbrev pub invariant-each : goal.invariant-each
invariant-each l =
    string_bytes l.out ++ text_of_lines (map line_of_range (drop l.range-index l.range-items))
    ≡ text_of_lines (map line_of_range l.range-items)
