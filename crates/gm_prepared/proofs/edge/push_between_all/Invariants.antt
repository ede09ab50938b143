use Rattle.std.proofs.Common.{◌≡◌, ◌++◌, drop}
use Rattle.gm_shapes.specs.Edge.{edges_between_all}
use Rattle.gm_prepared.specs.Edge.{tagged}
use Rattle.gm_prepared.proofs.edge.push_between_all.Given as goal

abbrev pub invariant-lines : goal.invariant-lines
invariant-lines l =
    l.edges ++ tagged l.area (edges_between_all (drop l.line-index l.lines))
    ≡ l.initial.edges ++ tagged l.area (edges_between_all l.lines)
