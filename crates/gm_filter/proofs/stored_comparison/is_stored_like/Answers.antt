use Rattle.std.proofs.Common.{◌≡◌, true, subst}
use Rattle.gm_feature.specs.declared.stored.StoredValue.{StoredValue}
use Rattle.gm_feature.specs.declared.value.Value.{Value}
use Rattle.gm_feature.specs.declared.value.Value.TheVariants as value
use Rattle.gm_feature.specs.Stored.{Says}
use Rattle.gm_feature.specs.Value.{is_sound}
use Rattle.gm_filter.proofs.Seen.{sound_text}
use Rattle.gm_filter.proofs.stored_comparison.is_stored_like.Goals as goal

pub like-requires-clause-text_is_text : goal.like-requires-clause-text_is_text
like-requires-clause-text_is_text c =
    let v = c.requires.0 in
    let text : v ≡ value.Text c.in-Text.bytes.now =
    subst (λ (s : StoredValue). Says s v) c.in-Text.is c.requires.1 in
    sound_text c.in-Text.bytes.now (subst (λ (v : Value). is_sound v ≡ true) text c.requires.2)
