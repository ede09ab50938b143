use Rattle.std.proofs.Common.{◌≡◌, ◌++◌, take}
use Rattle.std.specs.List.{flat_map}
use Rattle.std.specs.String.{string_bytes}
use Rattle.gm_script.specs.Reply.{line_of}
use Rattle.gm_script.proofs.reply.append_lines.Given as goal

abbrev pub invariant-lines : goal.invariant-lines
invariant-lines l =
    string_bytes l.text ≡ string_bytes l.fn.text ++ flat_map line_of (take l.line-index l.lines)
