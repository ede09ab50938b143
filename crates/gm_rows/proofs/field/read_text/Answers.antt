use Rattle.std.proofs.Common.{◌∙◌}
use Rattle.gm_rows.proofs.TextFields.{no_text, a_text}
use Rattle.gm_rows.proofs.field.read_text.Goals as goal

pub returns-in_default : goal.returns-in_default
returns-in_default c = no_text c.args.field.now c.in_default.ensures.cases.0

pub returns-in-Ok-from_str : goal.returns-in-Ok-from_str
returns-in-Ok-from_str c =
    a_text c.args.field.now c.in-Ok-from_str.text c.in-Ok.ensures.cases.1
    c.if-not-has_text_form.ensures
    (c.in-Ok-from_str.ensures ∙ c.in-Ok.ensures.cases.0)
