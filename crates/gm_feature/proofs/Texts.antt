-- Texts that are read: UTF-8 of the form of a text.
use Rattle.std.proofs.Common.{◌≡◌, ℕ, Bool, true, false, ◌&&◌, List, Some, None, refl, ap, ◌∙◌}
use Rattle.std.specs.Int.{w32}
use Rattle.std.specs.Str.{IsUtf8, is_utf8}
use Rattle.std.proofs.lemmas.Str.{IsUtf8-from_is_utf8, is_utf8-from_IsUtf8}
use Rattle.gm_feature.specs.Reader.{only_if, string_from, text_from}
use Rattle.gm_feature.specs.Value.{has_text_form}

decided : (bytes text rest : List ℕ) (b : Bool) → string_from w32 bytes ≡ Some (text, rest)
    → (is_utf8 text && has_text_form text) ≡ b → text_from bytes ≡ only_if b (text, rest)
unfolding text_from
decided bytes text rest b read is = rw (read, is) refl

no_utf8 : (text : List ℕ) → ¬ IsUtf8 text → is_utf8 text ≡ false
no_utf8 text broken =
    elim (is_utf8 text) as (λ b. is_utf8 text ≡ b → b ≡ false) [
      | true ↦ λ e. absurd (broken (IsUtf8-from_is_utf8 text e))
      | false ↦ λ _. refl
    ] refl

-- bytes that are no UTF-8 are refused
pub refused : (bytes text rest : List ℕ) → string_from w32 bytes ≡ Some (text, rest) → ¬ IsUtf8 text
    → text_from bytes ≡ None
refused bytes text rest read broken =
    decided bytes text rest false read (ap (λ b. b && has_text_form text) (no_utf8 text broken))

-- UTF-8 of the form is read
pub is_read : (bytes text rest : List ℕ) → string_from w32 bytes ≡ Some (text, rest) → IsUtf8 text
    → has_text_form text ≡ true → text_from bytes ≡ Some (text, rest)
is_read bytes text rest read utf8 form =
    decided bytes text rest true read
    (ap (λ b. b && has_text_form text) (is_utf8-from_IsUtf8 text utf8) ∙ form)
