use Rattle.std.proofs.Common.{◌≡◌, take}
use Rattle.gm_feature.proofs.feature.copy_values.Given as goal

abbrev pub invariant-values : goal.invariant-values
invariant-values l = l.copies.items ≡ take l.value-index l.values
