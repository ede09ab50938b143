-- Texts with a form.
use Rattle.std.proofs.Common.{◌≡◌, ◌<◌, lit<, length, Result, zero, suc, subst, ℕ, Bool, true}
use Rattle.std.proofs.Common.{false, ◌&&◌, List, [], ◌∷◌, Some, None, refl, ◌∙◌, ap, arith}
use Rattle.std.specs.Prelude.{nat_le, IsUtf8}
use Rattle.std.specs.List.{list_all}
use Rattle.std.specs.Char.{is_ascii_digit}
use Rattle.std.specs.Str.{is_utf8, IsAscii}
use Rattle.std.proofs.lemmas.Bool.{and_parts, and_from, or_left}
use Rattle.std.proofs.lemmas.Bool.Decides.{nat_tests}
use Rattle.std.proofs.lemmas.Str.{IsUtf8-from_is_utf8, is_utf8-from_IsUtf8, IsUtf8-from_ascii}
use Rattle.gm_types.specs.declared.halt.Halt.{Halt}
use Rattle.gm_types.specs.Halt.{Reads}
use Rattle.gm_types.specs.Reader.{value_if}
use Rattle.gm_types.specs.Words.{begins_name, continues_name, continue_name, has_name_form, is_name}
use Rattle.gm_types.specs.Words.{is_key_byte, is_key}

pub not_text : (formed : Bool) (bytes : List ℕ) → ¬ IsUtf8 bytes
    → value_if (formed && is_utf8 bytes) bytes ≡ None
not_text false bytes broken = refl
not_text true bytes broken = go (is_utf8 bytes) refl
  where
    go : (b : Bool) → is_utf8 bytes ≡ b → value_if b bytes ≡ None
    go true e = absurd (broken (IsUtf8-from_is_utf8 bytes e))
    go false e = refl

pub is_text : (formed : Bool) (bytes : List ℕ) → formed ≡ true → IsUtf8 bytes
    → value_if (formed && is_utf8 bytes) bytes ≡ Some bytes
is_text true bytes e utf8 = ap (λ b. value_if b bytes) (is_utf8-from_IsUtf8 bytes utf8)
is_text false bytes e utf8 = absurd (cc)

name_byte : (b : ℕ) → continues_name b ≡ true → b < 128
name_byte b h = grind (arith, nat_tests)

key_byte : (b : ℕ) → is_key_byte b ≡ true → b < 128
key_byte b h = grind (arith, nat_tests)

ascii_from : (test : ℕ → Bool) → ((b : ℕ) → test b ≡ true → b < 128) → (bs : List ℕ)
    → list_all test bs ≡ true → IsAscii bs
ascii_from test low [] all i = lit< tt
ascii_from test low (b ∷ bs) all zero = low b (and_parts (test b) (list_all test bs) all).0
ascii_from test low (b ∷ bs) all (suc i) =
    ascii_from test low bs (and_parts (test b) (list_all test bs) all).1 i

pub name_bytes : (bytes : List ℕ) → has_name_form bytes ≡ true
    → list_all continues_name bytes ≡ true
name_bytes [] h = absurd (cc)
name_bytes (b ∷ bytes) h =
    let parts = and_parts (begins_name b) (continue_name bytes) h in
    let rest = (and_parts (nat_le (length bytes) 63) (list_all continues_name bytes) parts.1).1 in
    and_from (continues_name b) (list_all continues_name bytes)
    (or_left (begins_name b) (is_ascii_digit b) parts.0) rest

pub name_utf8 : (bytes : List ℕ) → is_name bytes ≡ true → is_utf8 bytes ≡ true
unfolding is_name
name_utf8 bytes h =
    is_utf8-from_IsUtf8 bytes
    (IsUtf8-from_ascii bytes (ascii_from continues_name name_byte bytes (name_bytes bytes h)))

pub key_utf8 : (bytes : List ℕ) → is_key bytes ≡ true → is_utf8 bytes ≡ true
unfolding is_key
key_utf8 bytes h =
    let all = (and_parts (nat_le 1 (length bytes)) (list_all is_key_byte bytes) h).1 in
    is_utf8-from_IsUtf8 bytes (IsUtf8-from_ascii bytes (ascii_from is_key_byte key_byte bytes all))

absorbed : (a b : Bool) → (a ≡ true → b ≡ true) → (a && b) ≡ a
absorbed true b h = h refl
absorbed false b h = refl

pub name_reads : (bytes : List ℕ) (formed : Bool) → formed ≡ is_name bytes
    → (r : Result (List ℕ) Halt)
    → Reads (value_if (formed && is_utf8 bytes) bytes) r → Reads (value_if (is_name bytes) bytes) r
name_reads bytes formed e r h =
    subst (λ b. Reads (value_if b bytes) r)
    (ap (λ f. f && is_utf8 bytes) e
    ∙ absorbed (is_name bytes) (is_utf8 bytes) (name_utf8 bytes)) h

pub key_reads : (bytes : List ℕ) (formed : Bool) → formed ≡ is_key bytes
    → (r : Result (List ℕ) Halt)
    → Reads (value_if (formed && is_utf8 bytes) bytes) r → Reads (value_if (is_key bytes) bytes) r
key_reads bytes formed e r h =
    subst (λ b. Reads (value_if b bytes) r)
    (ap (λ f. f && is_utf8 bytes) e ∙ absorbed (is_key bytes) (is_utf8 bytes) (key_utf8 bytes))
    h
