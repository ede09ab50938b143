use Rattle.std.proofs.Common.{◌≡◌, ◌++◌, true, drop}
use Rattle.std.specs.String.{string_bytes}
use Rattle.gm_ecql.specs.Printer.{commas, literal_text}
use Rattle.gm_ecql.proofs.printer.append_literals.Given as goal

abbrev pub invariant-literals : goal.invariant-literals
invariant-literals l =
    string_bytes l.out ++ commas literal_text l.first (drop l.literal-index l.literals)
    ≡ string_bytes l.fn.out ++ commas literal_text true l.literals
