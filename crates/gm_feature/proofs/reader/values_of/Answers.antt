use Rattle.std.proofs.Common.{◌≡◌, ◌++◌, List, ◌∷◌, [], Some, sym, ap, ◌∙◌}
use Rattle.gm_feature.specs.declared.value.Value.{Value}
use Rattle.std.proofs.lemmas.Result.{err_from_is_err_and}
use Rattle.gm_feature.specs.Reader.{values_from}
use Rattle.gm_feature.proofs.Fitting.{kinds}
use Rattle.gm_feature.proofs.Loop.{value_goes_on, value_ends, values_done}
use Rattle.gm_feature.proofs.reader.values_of.Goals as goal

pub returns-in_err-value : goal.returns-in_err-value
returns-in_err-value c =
    let p = err_from_is_err_and c.from_residual-in_err-value.result
    c.from_residual-in_err-value.ensures.1 in
    rw (p.1, p.2) (value_ends c.args.attributes.now c.in_err-value.field-0.0 c.values.values.items
    c.values.attribute-index c.attribute-item.result c.values.rest.now
    (values_from (kinds c.args.attributes.now) c.args.bytes.now) c.values-test.true
    c.attribute-item.is c.in_err-value.ensures c.values.invariant)

pub values-preserved : goal.values-preserved
values-preserved c =
    let v = c.in_ok-value.value in
    let e : c.push.new.self.items ≡ c.values.values.items ++ v ∷ [] = c.in_ok-push.ensures.items in
    rw e (value_goes_on c.args.attributes.now c.values.values.items c.values.attribute-index
    c.attribute-item.result c.values.rest.now v c.in_ok-value.after.now
    (values_from (kinds c.args.attributes.now) c.args.bytes.now) c.values-test.true
    c.attribute-item.is c.in_ok-value.ensures c.values.invariant)

pub returns : goal.returns
returns c =
    values_done c.args.attributes.now c.values.values.items c.values.attribute-index
    c.values.rest.now
    (values_from (kinds c.args.attributes.now) c.args.bytes.now) c.values-test.false
    c.values.invariant
    ∙ ap (λ (vs : List Value). Some (vs, c.values.rest.now)) (sym c.from_vec.ensures)
