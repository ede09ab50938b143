-- Identifiers and UTF-8.
use Rattle.std.proofs.Common.{◌≡◌, true, false, ◌&&◌, List, ℕ, refl, ap}
use Rattle.std.specs.Str.{IsUtf8, is_utf8}
use Rattle.std.proofs.lemmas.Str.{IsUtf8-from_is_utf8, is_utf8-from_IsUtf8}
use Rattle.gm_base.specs.Identifier.{is_identifier, has_identifier_form}

-- bytes that are no UTF-8 are no identifier
pub not_identifier : (bytes : List ℕ) → ¬ IsUtf8 bytes → is_identifier bytes ≡ false
not_identifier bytes broken =
    elim (is_utf8 bytes) as (λ b. is_utf8 bytes ≡ b → (b && has_identifier_form bytes) ≡ false) [
      | true ↦ λ e. absurd (broken (IsUtf8-from_is_utf8 bytes e))
      | false ↦ λ _. refl
    ] refl

-- of UTF-8 the form decides
pub is_identifier-form : (bytes : List ℕ) → IsUtf8 bytes
    → is_identifier bytes ≡ has_identifier_form bytes
is_identifier-form bytes utf8 =
    ap (λ b. b && has_identifier_form bytes) (is_utf8-from_IsUtf8 bytes utf8)
