use Rattle.std.proofs.Common.{◌≡◌, true, List, take, drop, refl, ap, ◌∙◌, arith}
use Rattle.gm_types.specs.declared.attribute.Attribute.{Attribute}
use Rattle.gm_feature.specs.Feature.{values_fit}
use Rattle.gm_feature.specs.Reader.{value_from, values_from}
use Rattle.gm_feature.specs.Writer.{values_bytes}
use Rattle.gm_feature.proofs.Fitting.{kinds}
use Rattle.gm_feature.proofs.Seen.{stored_identifier, values_before, null_there, no_value_there}
use Rattle.gm_feature.proofs.stored.Stored.is_null.Goals as goal

pub returns-then-attributes-number : goal.returns-then-attributes-number
returns-then-attributes-number c = λ f is.
    let all = c.as_slice-attributes.result.now in
    let list : all ≡ c.args.self.now.of.now.attributes =
    c.as_slice-attributes.ensures ∙ c.attributes.ensures.list in
    let fit : values_fit (kinds all) f.values ≡ true =
    ap (λ (attributes : List Attribute). values_fit (kinds attributes) f.values) list
    ∙ is.fits.each in (
      λ yes. no_value_there all f.values c.args.attribute
          (omega (arith, c.if-attributes-number.true)) fit,
      λ null. refl,
    )

pub returns : goal.returns
returns c = λ f is.
    let all = c.as_slice-attributes.result.now in
    let n = c.args.attribute in
    let list : all ≡ c.args.self.now.of.now.attributes =
    c.as_slice-attributes.ensures ∙ c.attributes.ensures.list in
    let fit : values_fit (kinds all) f.values ≡ true =
    ap (λ (attributes : List Attribute). values_fit (kinds attributes) f.values) list
    ∙ is.fits.each in
    let start : c.values_of.result.now ≡ values_bytes f.values =
    c.values_of.ensures (f.id, values_bytes f.values)
    (stored_identifier c.args.self.now f is) in
    let before =
    ap (λ (attributes : List Attribute). values_from (kinds attributes) c.values_of.result.now)
    c.split_at.ensures.front
    ∙ ap (values_from (kinds (take n all))) start ∙ values_before all f.values n fit in
    let left : c.skip_values.result.now ≡ values_bytes (drop n f.values) =
    c.skip_values.ensures (take n f.values, values_bytes (drop n f.values)) before in
    null_there all f.values n c.begins_with_null.result
    (omega (arith, c.if-attributes-number.false)) fit
    (λ k x e. c.begins_with_null.ensures k x (ap (value_from k) left ∙ e))
