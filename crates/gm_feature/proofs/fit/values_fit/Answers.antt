use Rattle.std.proofs.Common.{sym, ◌∙◌, arith}
use Rattle.gm_feature.proofs.Fitting.{lengths_differ, fails_at, goes_on}
use Rattle.gm_feature.proofs.fit.values_fit.Goals as goal

pub returns-then-attributes-values : goal.returns-then-attributes-values
returns-then-attributes-values c =
    lengths_differ c.args.attributes.now c.args.values.now c.if-attributes-values.true

pub returns-then-not-value_fits : goal.returns-then-not-value_fits
returns-then-not-value_fits c =
    fails_at c.args.attributes.now c.args.values.now c.values.number
    c.index-attributes-number.result c.index-values-number.result
    (omega arith) (omega arith) c.index-values-number.is
    (sym c.value_fits.ensures ∙ c.if-not-value_fits.true) c.values.invariant

pub values-preserved : goal.values-preserved
values-preserved c =
    goes_on c.args.attributes.now c.args.values.now c.values.number
    c.index-attributes-number.result c.index-values-number.result
    (omega arith) (omega arith) c.index-values-number.is
    (sym c.value_fits.ensures ∙ c.if-not-value_fits.false) c.values.invariant
