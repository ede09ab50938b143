use Rattle.std.proofs.Common.{◌≡◌, false, None, drop}
use Rattle.gm_prepared.specs.Area.{is_held}
use Rattle.gm_prepared.proofs.area.is_held.Given as goal

abbrev pub invariant-edges : goal.invariant-edges
invariant-edges l =
    is_held l.p None false l.edges ≡ is_held l.p l.area l.odd (drop l.edge-index l.edges)
