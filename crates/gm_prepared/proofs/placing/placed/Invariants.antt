use Rattle.std.proofs.Common.{take}
use Rattle.gm_prepared.specs.Placing.{AreBands}
use Rattle.gm_prepared.proofs.placing.placed.Given as goal

abbrev pub invariant-edges : goal.invariant-edges
invariant-edges l = AreBands l.area (take l.edge-index l.edges) l.bands.items
