use Rattle.std.specs.Option.{ForSome}
use Rattle.gm_feature.specs.Reader.{values_from}
use Rattle.gm_feature.proofs.Fitting.{kinds}
use Rattle.gm_feature.proofs.Leaps.{ValuesLeft}
use Rattle.gm_feature.proofs.skips.skip_values.Given as goal

abbrev pub invariant-values : goal.invariant-values
invariant-values l =
    ForSome (values_from (kinds l.attributes) l.bytes)
    (λ x. ValuesLeft l.attributes l.attribute-index l.rest x.1)
