use Rattle.std.proofs.Common.{sym, ap, ◌∙◌, subst}
use Rattle.gm_feature.specs.declared.stored.StoredValue.{StoredValue}
use Rattle.gm_feature.specs.declared.value.Value.{Value}
use Rattle.gm_feature.specs.Feature.{value_at}
use Rattle.gm_feature.specs.Stored.{Says}
use Rattle.gm_filter.specs.Truth.{is_one_of}
use Rattle.gm_filter.proofs.Seen.{no_geometry_among}
use Rattle.gm_filter.proofs.stored_tests.is_one_of_at.Goals as goal

pub returns-in-Geometry : goal.returns-in-Geometry
returns-in-Geometry c = λ f is.
    let said = subst (λ (s : StoredValue). Says s (value_at f c.args.at)) c.in-Geometry.is
    (c.value.ensures f is) in
    sym (ap (λ (v : Value). is_one_of v c.args.literals.now) said.2
    ∙ no_geometry_among said.0 c.args.literals.now)
