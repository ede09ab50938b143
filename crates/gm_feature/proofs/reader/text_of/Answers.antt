use Rattle.std.proofs.Common.{ℕ, List, Some, sym, ap, ◌∙◌}
use Rattle.gm_feature.proofs.Texts.{refused, is_read}
use Rattle.gm_feature.proofs.reader.text_of.Goals as goal

pub returns-in_default : goal.returns-in_default
returns-in_default c =
    refused c.args.bytes.now c.in_ok-text.text.now c.in_ok-text.rest.now c.in_ok-text.ensures
    c.in_default.ensures.cases.0

pub returns-in-Ok-from_str : goal.returns-in-Ok-from_str
returns-in-Ok-from_str c =
    is_read c.args.bytes.now c.in_ok-text.text.now c.in_ok-text.rest.now c.in_ok-text.ensures
    c.in-Ok.ensures.cases.1 (sym c.has_text_form.ensures ∙ c.if-not-has_text_form.false)
    ∙ ap (λ (text : List ℕ). Some (text, c.in_ok-text.rest.now))
    (sym (c.in-Ok-from_str.ensures ∙ c.in-Ok.ensures.cases.0))
