use Rattle.gm_prepared.proofs.Bands.{AreFilled}
use Rattle.gm_prepared.proofs.placing.place_edge.Given as goal

abbrev pub invariant-bands : goal.invariant-bands
invariant-bands l = AreFilled l.initial.bands.items l.bands.items l.first l.k l.edge
