use Rattle.std.proofs.Common.{◌≡◌, drop, map}
use Rattle.gm_feature.specs.Feature.{values_fit}
use Rattle.gm_feature.proofs.fit.values_fit.Given as goal

abbrev pub invariant-values : goal.invariant-values
invariant-values l =
    values_fit (drop l.number (map (λ attribute. attribute.kind) l.attributes))
    (drop l.number l.values)
    ≡ values_fit (map (λ attribute. attribute.kind) l.attributes) l.values
