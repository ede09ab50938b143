use Rattle.gm_feature.proofs.Leaps.{values_left_on, values_left_done}
use Rattle.gm_feature.proofs.skips.skip_values.Goals as goal

pub values-init : goal.values-init
values-init c = λ x e. (x.0, e)

pub values-preserved : goal.values-preserved
values-preserved c = λ x e.
    values_left_on c.args.attributes.now c.values.attribute-index c.attribute-item.result
    c.values.rest.now c.skip_value-rest.result.now x.1
    c.values-test.true c.attribute-item.is c.skip_value-rest.ensures (c.values.invariant x e)

pub returns : goal.returns
returns c = λ x e. values_left_done c.args.attributes.now c.values.attribute-index c.values.rest.now
    x.1 c.values-test.false (c.values.invariant x e)
