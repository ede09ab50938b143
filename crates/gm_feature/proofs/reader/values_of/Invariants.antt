use Rattle.std.proofs.Common.{◌≡◌, drop}
use Rattle.gm_feature.specs.Reader.{values_from}
use Rattle.gm_feature.proofs.Fitting.{kinds}
use Rattle.gm_feature.proofs.Loop.{with_front}
use Rattle.gm_feature.proofs.reader.values_of.Given as goal

abbrev pub invariant-values : goal.invariant-values
invariant-values l =
    with_front l.values.items (values_from (drop l.attribute-index (kinds l.attributes)) l.rest)
    ≡ values_from (kinds l.attributes) l.bytes
