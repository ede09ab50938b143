use Rattle.std.proofs.Common.{◌≡◌, ◌++◌, take}
use Rattle.std.specs.String.{string_bytes}
use Rattle.gm_types.specs.Spelling.{options_text}
use Rattle.gm_types.proofs.printer.append_options.Given as goal

abbrev pub invariant-loop-option : goal.invariant-loop-option
invariant-loop-option l =
    string_bytes l.out ≡ string_bytes l.fn.out ++ options_text (take l.option-index l.options)
