use Rattle.std.proofs.Common.{sym, ap, ◌&&◌, ◌∙◌}
use Rattle.std.proofs.lemmas.Str.{is_utf8-from_IsUtf8}
use Rattle.gm_feature.specs.Value.{is_sound, has_text_form}
use Rattle.gm_feature.proofs.fit.is_sound.Goals as goal

pub returns-in-Text : goal.returns-in-Text
returns-in-Text c =
    c.has_text_form.ensures ∙ ap has_text_form c.as_bytes.ensures.bytes
    ∙ sym (ap (λ b. b && has_text_form c.in-Text.text)
    (is_utf8-from_IsUtf8 c.in-Text.text c.as_bytes.ensures.utf8))
    ∙ ap is_sound (sym c.in-Text.is)
