use Rattle.std.proofs.Common.{◌≡◌, [], replicate}
use Rattle.gm_prepared.proofs.placing.empty_bands.Given as goal

abbrev pub invariant-bands : goal.invariant-bands
invariant-bands l = l.bands.items ≡ replicate l.counter []
