-- Texts as fields.
use Rattle.std.proofs.Common.{◌≡◌, ◌∙◌, Bool, true, false, ◌&&◌, List, ℕ, Some, None, Ok, Err, refl}
use Rattle.std.proofs.Common.{sym, ap}
use Rattle.std.specs.Prelude.{if◌then◌else◌}
use Rattle.std.specs.Str.{IsUtf8, is_utf8}
use Rattle.std.proofs.lemmas.Bool.{and_from}
use Rattle.std.proofs.lemmas.Str.{IsUtf8-from_is_utf8, is_utf8-from_IsUtf8}
use Rattle.gm_feature.specs.declared.value.Value.TheVariants as value
use Rattle.gm_feature.specs.Value.{has_text_form}
use Rattle.gm_rows.specs.declared.fault.RowFault.TheVariants as fault
use Rattle.gm_rows.specs.Reader.{text_of, read_as}

-- what is no UTF-8 is no text
pub no_text : (bytes : List ℕ) → ¬ IsUtf8 bytes
    → read_as value.Text (text_of bytes) ≡ Err fault.Value
no_text bytes broken = go (is_utf8 bytes) refl
  where
    go : (b : Bool) → is_utf8 bytes ≡ b → read_as value.Text (text_of bytes) ≡ Err fault.Value
    go true e = absurd (broken (IsUtf8-from_is_utf8 bytes e))
    go false e = ap
        (λ b. read_as value.Text (if b && has_text_form bytes then Some bytes else None)) e

-- of UTF-8 the form decides
pub a_text : (bytes text : List ℕ) → IsUtf8 bytes → true ≡ has_text_form bytes → text ≡ bytes
    → read_as value.Text (text_of bytes) ≡ Ok (value.Text text)
a_text bytes text utf8 form same =
    ap (λ b. read_as value.Text (if b then Some bytes else None))
    (and_from (is_utf8 bytes) (has_text_form bytes) (is_utf8-from_IsUtf8 bytes utf8) (sym form))
    ∙ ap (λ t. Ok (value.Text t)) (sym same)
