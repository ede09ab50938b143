use Rattle.std.proofs.Common.{◌≡◌, false, take}
use Rattle.std.specs.List.{list_any}
use Rattle.gm_prepared.proofs.edge_test.any_passes.Given as goal

abbrev pub invariant-edges : goal.invariant-edges
invariant-edges g l = list_any (g.T.EdgeTest.passed l.test) (take l.edge-index l.edges) ≡ false
