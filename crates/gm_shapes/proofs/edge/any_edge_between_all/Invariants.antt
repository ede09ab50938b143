use Rattle.std.proofs.Common.{◌≡◌, false, take}
use Rattle.std.specs.List.{list_any}
use Rattle.gm_shapes.specs.Edge.{edges_between_all}
use Rattle.gm_shapes.proofs.edge.any_edge_between_all.Given as goal

abbrev pub invariant-lines : goal.invariant-lines
invariant-lines g l =
    list_any (g.S.Shape.met l.shape) (edges_between_all (take l.line-index l.lines)) ≡ false
