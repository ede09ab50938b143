use Rattle.std.proofs.Common.{◌≡◌, ◌++◌, List, take, map}
use Rattle.std.specs.List.{flat_map}
use Rattle.std.specs.String.{string_bytes}
use Rattle.gm_feature.specs.declared.feature.Feature.{Feature}
use Rattle.gm_script.specs.Reply.{row_line}
use Rattle.gm_program.specs.InOrder.{AreRowsOf, seen}
use Rattle.gm_program.proofs.execute.printed.append_rows.Given as goal

abbrev pub invariant-rows : goal.invariant-rows
invariant-rows l = (features : List Feature) → AreRowsOf l.of (map seen l.rows) features
    → string_bytes l.text ≡ string_bytes l.fn.text ++ flat_map row_line (take l.row-index features)
