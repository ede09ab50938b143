use Rattle.std.proofs.Common.{ap, subst, ◌∙◌, ◌≡◌, get_or, Option, List, ℕ, IfOk, le_refl}
use Rattle.gm_types.specs.Specification.{kinds_of}
use Rattle.gm_feature.specs.declared.value.Value.TheVariants as value
use Rattle.gm_feature.specs.Value.{is_sound}
use Rattle.gm_keys.proofs.Places.{sound_at}
use Rattle.gm_keys.proofs.KeyParts.{value_is}
use Rattle.gm_keys.proofs.key.value_key.Goals as goal

pub form_key-requires : goal.form_key-requires
form_key-requires c =
    let told = c.in-Some.ensures in
    ap is_sound (told.lookup.3.1 value.Null
    ∙ ap (λ values. get_or values c.from.result value.Null) c.as_slice.ensures)
    ∙ sound_at (kinds_of c.args.of.now) c.args.feature.now.values c.from.result c.requires.each

pub returns-in-Some : goal.returns-in-Some
returns-in-Some c =
    let told = c.in-Some.ensures in
    subst (λ (o : Option (List ℕ)). IfOk c.form_key.result (λ key. key ≡ o))
    (value_is c.args.of.now c.args.feature.now c.args.attribute c.in-Some.value.now
    (told.lookup.3.1 value.Null
    ∙ (λ i. get_or (c.as_slice.ensures i) (c.from.ensures i) value.Null)))
    c.form_key.ensures

pub returns-in-None : goal.returns-in-None
returns-in-None c =
    let told = c.in-None.ensures in
    value_is c.args.of.now c.args.feature.now c.args.attribute value.Null
    (told.lookup.4 (le_refl c.from.result) value.Null
    ∙ (λ i. get_or (c.as_slice.ensures i) (c.from.ensures i) value.Null))
