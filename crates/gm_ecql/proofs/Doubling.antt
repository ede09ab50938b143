-- A text with each quote written twice is UTF-8 where the text is.
use Rattle.std.proofs.Common.{◌≡◌, ℕ, true, false, ◌==◌, cond, List, [], ◌∷◌, ◌++◌, encode_utf8}
use Rattle.std.proofs.Common.{encode_utf8_all, IsUtf8, chars, append-nil, refl, sym, ap, ◌∙◌}
use Rattle.std.specs.Str.{all_scalars}
use Rattle.std.proofs.lemmas.Str.{encodes-chars}
use Rattle.std.proofs.lemmas.Bool.{and_parts, and_from}
use Rattle.gm_ecql.specs.Token.{doubled}
use Rattle.gm_ecql.proofs.Undoubling.{QuoteFree, free_char, quote_char, quote_first}

free_doubled : (bs rest : List ℕ) → QuoteFree bs → doubled (bs ++ rest) ≡ bs ++ doubled rest
free_doubled [] rest free = refl
free_doubled (b ∷ bs) rest free =
    ap (λ x. cond x (39 ∷ 39 ∷ doubled (bs ++ rest)) (b ∷ doubled (bs ++ rest))) free.0
    ∙ ap (λ z. b ∷ z) (free_doubled bs rest free.1)

doubled_encodes : (cs : List ℕ) → doubled (encode_utf8_all cs) ≡ encode_utf8_all (doubled cs)
doubled_encodes [] = refl
doubled_encodes (c ∷ cs) =
    elim (c == 39) as
    (λ x. (c == 39) ≡ x
    → doubled (encode_utf8 c ++ encode_utf8_all cs)
    ≡ encode_utf8_all (cond x (39 ∷ 39 ∷ doubled cs) (c ∷ doubled cs))) [
      | true ↦ λ e. ap (λ z. doubled (z ++ encode_utf8_all cs)) (quote_char c e)
          ∙ ap (λ z. 39 ∷ 39 ∷ z) (doubled_encodes cs)
          ∙ ap (λ z. 39 ∷ z) (sym (quote_first (doubled cs))) ∙ sym (quote_first (39 ∷ doubled cs))
      | false ↦ λ e. free_doubled (encode_utf8 c) (encode_utf8_all cs) (free_char c e)
          ∙ ap (λ z. encode_utf8 c ++ z) (doubled_encodes cs)
    ] refl

doubled_scalars : (cs : List ℕ) → all_scalars cs ≡ true → all_scalars (doubled cs) ≡ true
doubled_scalars [] s = refl
doubled_scalars (c ∷ cs) s =
    elim (c == 39) as (λ x. all_scalars (cond x (39 ∷ 39 ∷ doubled cs) (c ∷ doubled cs)) ≡ true) [
      | true ↦ doubled_scalars cs (and_parts _ (all_scalars cs) s).1
      | false ↦ and_from _ _ (and_parts _ (all_scalars cs) s).0
          (doubled_scalars cs (and_parts _ (all_scalars cs) s).1)
    ]

pub doubled_utf8 : (bytes : List ℕ) → IsUtf8 bytes → IsUtf8 (doubled bytes)
doubled_utf8 bytes u =
    (doubled u.0, (doubled_scalars u.0 u.1.0, sym (doubled_encodes u.0) ∙ ap doubled u.1.1))

-- of all characters of a text
pub doubled_chars : (raw cs old bytes : List ℕ) → IsUtf8 raw → cs ≡ chars raw
    → ((more : List ℕ)
    → old ++ encode_utf8_all (doubled (cs ++ more)) ≡ bytes ++ encode_utf8_all (doubled more))
    → bytes ≡ old ++ doubled raw
doubled_chars raw cs old bytes u e h =
    sym (append-nil bytes) ∙ sym (h [])
    ∙ ap (λ z. old ++ encode_utf8_all (doubled z)) (append-nil cs)
    ∙ ap (λ z. old ++ z) (sym (doubled_encodes cs))
    ∙ ap (λ z. old ++ doubled z) (ap encode_utf8_all e ∙ encodes-chars raw u)
