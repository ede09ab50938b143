use Rattle.std.proofs.Common.{◌≡◌, ◌++◌, true, map, drop}
use Rattle.std.specs.String.{string_bytes}
use Rattle.gm_filter.specs.Tree.{tree, trees_of}
use Rattle.gm_ecql.specs.Printer.{listed}
use Rattle.gm_ecql.proofs.printer.+printer.Given as goal

abbrev pub invariant-append_members-members : goal.invariant-append_members-members
invariant-append_members-members l =
    string_bytes l.out
    ++ listed l.of l.first l.separator (trees_of (map tree (drop l.member-index l.members)))
    ≡ string_bytes l.fn.out ++ listed l.of true l.separator (trees_of (map tree l.members))
