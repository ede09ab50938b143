use Rattle.std.proofs.Common.{◌≡◌, true, List, suc, take, drop, get_or, ap, ◌∙◌, arith}
use Rattle.gm_types.specs.declared.attribute.Attribute.{Attribute}
use Rattle.gm_feature.specs.declared.value.Value.TheVariants as value
use Rattle.gm_feature.specs.Feature.{values_fit}
use Rattle.gm_feature.specs.Reader.{value_from, values_from}
use Rattle.gm_feature.specs.Writer.{values_bytes}
use Rattle.gm_feature.proofs.Fitting.{kinds}
use Rattle.gm_feature.proofs.Seen.{stored_identifier, values_before, value_there, no_value_there}
use Rattle.gm_feature.proofs.stored.Stored.value.Goals as goal

pub returns-then-attributes-number : goal.returns-then-attributes-number
returns-then-attributes-number c = λ f is.
    let all = c.as_slice-attributes.result.now in
    let list : all ≡ c.args.self.now.of.now.attributes =
    c.as_slice-attributes.ensures ∙ c.attributes.ensures.list in
    let fit : values_fit (kinds all) f.values ≡ true =
    ap (λ (attributes : List Attribute). values_fit (kinds attributes) f.values) list
    ∙ is.fits.each in
    no_value_there all f.values c.args.attribute (omega (arith, c.if-attributes-number.true)) fit

pub returns : goal.returns
returns c = λ f is.
    let all = c.as_slice-attributes.result.now in
    let n = c.args.attribute in
    let list : all ≡ c.args.self.now.of.now.attributes =
    c.as_slice-attributes.ensures ∙ c.attributes.ensures.list in
    let fit : values_fit (kinds all) f.values ≡ true =
    ap (λ (attributes : List Attribute). values_fit (kinds attributes) f.values) list
    ∙ is.fits.each in
    let start : c.values_of.result.now ≡ values_bytes f.values =
    c.values_of.ensures (f.id, values_bytes f.values)
    (stored_identifier c.args.self.now f is) in
    let before =
    ap (λ (attributes : List Attribute). values_from (kinds attributes) c.values_of.result.now)
    c.split_at.ensures.front
    ∙ ap (values_from (kinds (take n all))) start ∙ values_before all f.values n fit in
    let left : c.skip_values.result.now ≡ values_bytes (drop n f.values) =
    c.skip_values.ensures (take n f.values, values_bytes (drop n f.values)) before in
    let asked = c.index-attributes-number.result in
    c.stored_value.ensures (get_or f.values n value.Null, values_bytes (drop (suc n) f.values))
    (ap (value_from (get_or all n asked).kind) left
    ∙ value_there all f.values n asked (omega (arith, c.if-attributes-number.false)) fit)
