use Rattle.std.proofs.Common.{sym, ap, ◌∙◌}
use Rattle.gm_base.specs.Identifier.{is_identifier}
use Rattle.gm_base.proofs.Identifiers.{not_identifier, is_identifier-form}
use Rattle.gm_base.proofs.identifier.FeatureId.of.Goals as goal

pub returns-in_default : goal.returns-in_default
returns-in_default c = not_identifier c.args.text.now c.in_default.ensures.cases.0

pub invariant_of-result : goal.invariant_of-result
invariant_of-result c =
    ap is_identifier (c.in-Ok-from_str.ensures ∙ c.in-Ok.ensures.cases.0)
    ∙ is_identifier-form c.args.text.now c.in-Ok.ensures.cases.1
    ∙ sym c.has_form.ensures ∙ c.if-not-has_form.false

pub returns-in-Ok-from_str : goal.returns-in-Ok-from_str
returns-in-Ok-from_str c = (
  c.in-Ok-from_str.ensures ∙ c.in-Ok.ensures.cases.0,
  is_identifier-form c.args.text.now c.in-Ok.ensures.cases.1 ∙ sym c.has_form.ensures
      ∙ c.if-not-has_form.false,
)

pub returns-in-Err : goal.returns-in-Err
returns-in-Err c =
    is_identifier-form c.args.text.now c.in-Ok.ensures.cases.1 ∙ sym c.has_form.ensures
    ∙ c.if-not-has_form.false
