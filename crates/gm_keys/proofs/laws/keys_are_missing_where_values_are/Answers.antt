use Rattle.gm_keys.proofs.Missing.{ValueLaws, missing}
use Rattle.gm_keys.proofs.laws.keys_are_missing_where_values_are.Goals as goal

pub returns : goal.returns
returns c =
    let laws : ValueLaws = record {
      extent = c.extents_are_least.ensures.there;
      value = c.fitting_features_have_values.ensures.value;
    } in
    missing laws
