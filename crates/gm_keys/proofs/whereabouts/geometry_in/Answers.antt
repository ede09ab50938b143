use Rattle.std.proofs.Common.{ap, ◌∙◌, get_or}
use Rattle.gm_types.specs.Specification.{kinds_of}
use Rattle.gm_feature.specs.declared.value.Value.TheVariants as value
use Rattle.gm_keys.proofs.Places.{kept_at}
use Rattle.gm_keys.proofs.whereabouts.geometry_in.Goals as goal

pub returns-in-Some-Geo-clause-kept : goal.returns-in-Some-Geo-clause-kept
returns-in-Some-Geo-clause-kept c =
    let told = c.in-Some-Geo.ensures in
    kept_at (kinds_of c.args.of.now) c.args.feature.now.values c.from.result
    c.in-Some-Geo.field-0.now c.in-Some-Geo.geometry c.requires.each c.in-Some-Geo.field-0-is
    (told.lookup.3.1 value.Null
    ∙ ap (λ values. get_or values c.from.result value.Null) c.as_slice.ensures)
