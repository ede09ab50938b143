use Rattle.std.proofs.Common.{◌≡◌, ◌++◌, map, take}
use Rattle.gm_script.specs.Description.{index_line}
use Rattle.gm_script.proofs.description.append_lines.Given as goal

abbrev pub invariant-indexes : goal.invariant-indexes
invariant-indexes l = l.lines ≡ l.fn.lines ++ map (index_line l.of) (take l.kind-index l.indexes)
