use Rattle.std.specs.Str.{is_utf8}
use Rattle.std.proofs.lemmas.Str.{IsUtf8-from_is_utf8}
use Rattle.std.proofs.lemmas.Bool.{and_parts}
use Rattle.gm_base.specs.Identifier.{has_identifier_form}
use Rattle.gm_feature.specs.Value.{has_text_form}
use Rattle.gm_feature.proofs.laws.stored_texts_are_utf8.Goals as goal

pub returns-clause-identifier : goal.returns-clause-identifier
returns-clause-identifier c = λ s f is.
    IsUtf8-from_is_utf8 f.id
    (and_parts (is_utf8 f.id) (has_identifier_form f.id) is.fits.identifier).0

pub returns-clause-text : goal.returns-clause-text
returns-clause-text c = λ text sound.
    IsUtf8-from_is_utf8 text (and_parts (is_utf8 text) (has_text_form text) sound).0
