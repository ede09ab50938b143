use Rattle.std.proofs.Common.{◌≡◌, ◌++◌, drop}
use Rattle.std.specs.Prelude.{codes}
use Rattle.std.specs.String.{string_bytes}
use Rattle.gm_ecql.specs.Printer.{commas, quoted_text, ids_text}
use Rattle.gm_ecql.proofs.printer.append_ids.Given as goal

abbrev pub invariant-texts : goal.invariant-texts
invariant-texts l =
    string_bytes l.out ++ (commas quoted_text l.first (drop l.text-index l.texts) ++ codes ")")
    ≡ string_bytes l.fn.out ++ ids_text l.texts
