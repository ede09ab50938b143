use Rattle.gm_types.specs.declared.kind.Kind.TheVariants as kind
use Rattle.gm_bounds.proofs.InTime.{found_in_intervals}
use Rattle.gm_bounds.proofs.laws.dates_are_in_intervals.Goals as goal

pub returns : goal.returns
returns c = λ s t f d holds suit fits e place. found_in_intervals s t f d
    (c.fitting_features_have_values.ensures.value s f d kind.Date fits (holds.date d place).kind)
    suit e place
