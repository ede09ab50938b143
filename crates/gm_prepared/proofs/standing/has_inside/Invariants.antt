use Rattle.std.proofs.Common.{◌≡◌, drop}
use Rattle.gm_prepared.specs.Standing.{no_edges, has_inside}
use Rattle.gm_prepared.proofs.standing.has_inside.Given as goal

abbrev pub invariant-edges : goal.invariant-edges
invariant-edges l =
    has_inside l.p no_edges l.edges ≡ has_inside l.p l.standing (drop l.edge-index l.edges)
