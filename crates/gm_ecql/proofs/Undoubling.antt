-- Quotes that were written twice are dropped from the characters of a text as from its bytes.
use Rattle.std.proofs.Common.{◌≡◌, ℕ, zero, suc, ◌<◌, Bool, true, false, ◌==◌, cond, List, []}
use Rattle.std.proofs.Common.{◌∷◌, ◌++◌, length, get_or, encode_utf8, encode_utf8_all, IsUtf8}
use Rattle.std.proofs.Common.{chars, refl, sym, ap, ◌∙◌, subst, arith, eqb-true, append-nil}
use Rattle.std.specs.Prelude.{⊤}
use Rattle.std.specs.Str.{all_scalars}
use Rattle.std.proofs.lemmas.Str.{inside_one, length-encode, len_utf8_bounds, encodes-chars}
use Rattle.std.proofs.lemmas.Str.{encode_ascii}
use Rattle.std.proofs.lemmas.Bool.{and_parts, and_from}
use Rattle.gm_base.proofs.Booleans.{not_both}
use Rattle.gm_ecql.specs.Token.{doubled, undoubled, undoubled_from}
use Rattle.gm_ecql.proofs.Sound.{undoubled_doubled}

-- no byte is a quote
abbrev pub QuoteFree : List ℕ → Type 0
QuoteFree [] = ⊤
QuoteFree (b ∷ bs) = ((b == 39) ≡ false) × QuoteFree bs

quote_free : (bs : List ℕ) → ((k : ℕ) → k < length bs → (get_or bs k 0 == 39) ≡ false)
    → QuoteFree bs
quote_free [] h = tt
quote_free (b ∷ bs) h = (h zero (omega arith), quote_free bs (λ k l. h (suc k) (omega (arith, l))))

-- a byte of a character is a quote only where the character is
no_quote_at : (c k : ℕ) → (c == 39) ≡ false → k < length (encode_utf8 c)
    → (get_or (encode_utf8 c) k 0 == 39) ≡ false
no_quote_at c k other l =
    elim (get_or (encode_utf8 c) k 0 == 39) as
    (λ x. (get_or (encode_utf8 c) k 0 == 39) ≡ x → x ≡ false) [
      | true ↦ λ e.
          let is : get_or (encode_utf8 c) k 0 ≡ 39 = eqb-true (get_or (encode_utf8 c) k 0) 39 e in
          let same : c ≡ get_or (encode_utf8 c) k 0 =
          inside_one c [] (encode_utf8 c) k (sym (append-nil (encode_utf8 c))) l
          (omega (arith, is)) in
          not_both (c == 39) (ap (λ z. z == 39) (same ∙ is)) other
      | false ↦ λ e. refl
    ] refl

pub free_char : (c : ℕ) → (c == 39) ≡ false → QuoteFree (encode_utf8 c)
free_char c other = quote_free (encode_utf8 c) (λ k l. no_quote_at c k other l)

some_char : (c : ℕ) → 0 < length (encode_utf8 c)
some_char c = omega (arith, length-encode c, (len_utf8_bounds c).0)

free_passes : (bs rest : List ℕ) (behind : Bool) → 0 < length bs → QuoteFree bs
    → undoubled_from behind (bs ++ rest) ≡ bs ++ undoubled_from false rest
free_passes [] rest behind some free = absurd (omega (arith, some))
free_passes (b ∷ []) rest behind some free =
    ap (λ x. cond x (cond behind (undoubled_from false rest) (39 ∷ undoubled_from true rest))
    (b ∷ undoubled_from false rest)) free.0
free_passes (b ∷ c ∷ bs) rest behind some free =
    let later = (c ∷ bs) ++ rest in
    ap (λ x. cond x (cond behind (undoubled_from false later) (39 ∷ undoubled_from true later))
    (b ∷ undoubled_from false later)) free.0
    ∙ ap (λ z. b ∷ z) (free_passes (c ∷ bs) rest false (omega arith) free.1)

pub quote_char : (c : ℕ) → (c == 39) ≡ true → encode_utf8 c ≡ 39 ∷ []
quote_char c is =
    let at : c ≡ 39 = eqb-true c 39 is in
    encode_ascii c (omega (arith, at)) ∙ ap (λ z. z ∷ []) at

pub quote_first : (cs : List ℕ) → encode_utf8_all (39 ∷ cs) ≡ 39 ∷ encode_utf8_all cs
quote_first cs = ap (λ z. z ++ encode_utf8_all cs) (quote_char 39 refl)

encodes_at_quote : (cs : List ℕ) (behind : Bool)
    → undoubled_from false (encode_utf8_all cs) ≡ encode_utf8_all (undoubled_from false cs)
    → undoubled_from true (encode_utf8_all cs) ≡ encode_utf8_all (undoubled_from true cs)
    → undoubled_from behind (39 ∷ encode_utf8_all cs)
    ≡ encode_utf8_all (cond behind (undoubled_from false cs) (39 ∷ undoubled_from true cs))
encodes_at_quote cs true free behind_one = free
encodes_at_quote cs false free behind_one =
    ap (λ z. 39 ∷ z) behind_one ∙ sym (quote_first (undoubled_from true cs))

pub undoubled_encodes : (cs : List ℕ) (behind : Bool)
    → undoubled_from behind (encode_utf8_all cs) ≡ encode_utf8_all (undoubled_from behind cs)
undoubled_encodes [] behind = refl
undoubled_encodes (c ∷ cs) behind =
    elim (c == 39) as
    (λ x. (c == 39) ≡ x
    → undoubled_from behind (encode_utf8 c ++ encode_utf8_all cs)
    ≡ encode_utf8_all
    (cond x (cond behind (undoubled_from false cs) (39 ∷ undoubled_from true cs))
    (c ∷ undoubled_from false cs))) [
      | true ↦ λ e. ap (λ z. undoubled_from behind (z ++ encode_utf8_all cs)) (quote_char c e)
          ∙ encodes_at_quote cs behind (undoubled_encodes cs false) (undoubled_encodes cs true)
      | false ↦ λ e. free_passes (encode_utf8 c) (encode_utf8_all cs) behind (some_char c)
          (free_char c e) ∙ ap (λ z. encode_utf8 c ++ z) (undoubled_encodes cs false)
    ] refl

scalars_at_quote : (cs : List ℕ) (behind : Bool) → all_scalars (undoubled_from false cs) ≡ true
    → all_scalars (undoubled_from true cs) ≡ true
    → all_scalars (cond behind (undoubled_from false cs) (39 ∷ undoubled_from true cs)) ≡ true
scalars_at_quote cs true free behind_one = free
scalars_at_quote cs false free behind_one = behind_one

undoubled_scalars : (cs : List ℕ) (behind : Bool) → all_scalars cs ≡ true
    → all_scalars (undoubled_from behind cs) ≡ true
undoubled_scalars [] behind s = refl
undoubled_scalars (c ∷ cs) behind s =
    let later = (and_parts _ (all_scalars cs) s).1 in
    elim (c == 39) as
    (λ x. all_scalars
    (cond x (cond behind (undoubled_from false cs) (39 ∷ undoubled_from true cs))
    (c ∷ undoubled_from false cs)) ≡ true) [
      | true ↦ scalars_at_quote cs behind (undoubled_scalars cs false later)
          (undoubled_scalars cs true later)
      | false ↦ and_from _ _ (and_parts _ (all_scalars cs) s).0 (undoubled_scalars cs false later)
    ]

pub undoubled_utf8 : (bytes : List ℕ) → IsUtf8 bytes → IsUtf8 (undoubled bytes)
undoubled_utf8 bytes u = (
  undoubled_from false u.0,
  (undoubled_scalars u.0 false u.1.0, sym (undoubled_encodes u.0 false) ∙ ap undoubled u.1.1),
)

-- what is UTF-8 with its quotes doubled is UTF-8
pub plain_utf8 : (bytes : List ℕ) → IsUtf8 (doubled bytes) → IsUtf8 bytes
plain_utf8 bytes u =
    subst (λ z. IsUtf8 z) (undoubled_doubled bytes) (undoubled_utf8 (doubled bytes) u)

-- of all characters of a text
pub undoubled_chars : (raw cs bytes : List ℕ) (behind : Bool) → IsUtf8 raw → cs ≡ chars raw
    → ((more : List ℕ)
    → encode_utf8_all (undoubled_from false (cs ++ more))
    ≡ bytes ++ encode_utf8_all (undoubled_from behind more)) → bytes ≡ undoubled raw
undoubled_chars raw cs bytes behind u e h =
    sym (append-nil bytes) ∙ sym (h [])
    ∙ ap (λ z. encode_utf8_all (undoubled_from false z)) (append-nil cs)
    ∙ sym (undoubled_encodes cs false)
    ∙ ap undoubled (ap encode_utf8_all e ∙ encodes-chars raw u)
