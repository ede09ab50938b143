use Rattle.std.proofs.Common.{◌≡◌, ◌++◌, drop}
use Rattle.gm_prepared.specs.Edge.{area_edges}
use Rattle.gm_prepared.proofs.edge.push_around.Given as goal

abbrev pub invariant-areas : goal.invariant-areas
invariant-areas l =
    l.edges ++ area_edges l.area_number (drop l.area_number l.areas)
    ≡ l.initial.edges ++ area_edges 0 l.areas
