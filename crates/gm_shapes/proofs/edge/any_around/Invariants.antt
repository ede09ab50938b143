use Rattle.std.proofs.Common.{◌≡◌, false, take}
use Rattle.std.specs.List.{list_any}
use Rattle.gm_shapes.specs.Edge.{edges_between_all}
use Rattle.gm_geom.specs.Geometry.{joined}
use Rattle.gm_shapes.proofs.edge.any_around.Given as goal

abbrev pub invariant-areas : goal.invariant-areas
invariant-areas g l =
    list_any (g.S.Shape.met l.shape) (edges_between_all (joined (take l.rings-index l.rings-items)))
    ≡ false
