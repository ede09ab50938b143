-- What is like a pattern begins as the pattern does.
use Rattle.std.proofs.Common.{◌≡◌, ℕ, Bool, true, false, cond, eqb, List, [], ◌∷◌}
use Rattle.std.proofs.Common.{◌++◌, refl, sym, ap, ◌∙◌, true≢false}
use Rattle.std.proofs.lemmas.Bool.{and_parts, or_parts, eqb-true, eqb-false}
use Rattle.std.specs.Prelude.{IsUtf8}
use Rattle.gm_filter.specs.Like.{is_like, is_wildcard, has_wildcard, plain_front}
use Rattle.gm_filter.specs.Wildcards.{matches}
use Rattle.gm_filter.proofs.Characters.{IsPlain, matches_plain, matches_texts}

plain_where : (b : ℕ) → is_wildcard b ≡ false → IsPlain b
plain_where b h = let parts = or_parts (eqb b 37) (eqb b 95) h in
    (eqb-false b 37 parts.0, eqb-false b 95 parts.1)

-- a plain byte is matched by itself
matched_byte : (b : ℕ) (ps u : List ℕ) → is_wildcard b ≡ false → matches (b ∷ ps) u ≡ true
    → (rest : List ℕ) × (u ≡ b ∷ rest) × (matches ps rest ≡ true)
matched_byte b ps [] plain m =
    absurd (true≢false (sym m ∙ matches_plain b ps [] (plain_where b plain)))
matched_byte b ps (x ∷ u) plain m =
    let parts = and_parts (eqb x b) (matches ps u)
    (sym (matches_plain b ps (x ∷ u) (plain_where b plain)) ∙ m) in
    (u, ap (λ y. y ∷ u) (eqb-true x b parts.0), parts.1)

Begins : List ℕ → List ℕ → Type 0
Begins front text = (rest : List ℕ) × (text ≡ front ++ rest)

front_cond : (w : Bool) (b : ℕ) (ps text : List ℕ) → (w ≡ false → Begins (b ∷ plain_front ps) text)
    → Begins (cond w [] (b ∷ plain_front ps)) text
unfolding Begins
front_cond true b ps text found = (text, refl)
front_cond false b ps text found = found refl

matched_front : (ps u : List ℕ) → matches ps u ≡ true → Begins (plain_front ps) u
unfolding Begins
matched_front [] u m = (u, refl)
matched_front (b ∷ ps) u m = front_cond (is_wildcard b) b ps u (λ plain.
    let one = matched_byte b ps u plain m in
    let later = matched_front ps one.0 one.2 in
    (later.0, one.1 ∙ ap (λ bs. b ∷ bs) later.1))

matched_whole : (ps u : List ℕ) → matches ps u ≡ true → has_wildcard ps ≡ false → u ≡ ps
matched_whole [] [] m plain = refl
matched_whole [] (x ∷ u) m plain = absurd (true≢false (sym m))
matched_whole (b ∷ ps) u m plain =
    let parts = or_parts (is_wildcard b) (has_wildcard ps) plain in
    let one = matched_byte b ps u parts.0 m in
    one.1 ∙ ap (λ bs. b ∷ bs) (matched_whole ps one.0 one.2 parts.1)

pub like_front : (pattern text : List ℕ) → IsUtf8 pattern → IsUtf8 text
    → is_like pattern text ≡ true → (rest : List ℕ) × (text ≡ plain_front pattern ++ rest)
unfolding Begins
like_front pattern text p t h = matched_front pattern text (matches_texts pattern text p t ∙ h)

pub like_whole : (pattern text : List ℕ) → IsUtf8 pattern → IsUtf8 text
    → is_like pattern text ≡ true → has_wildcard pattern ≡ false → text ≡ pattern
like_whole pattern text p t h plain =
    matched_whole pattern text (matches_texts pattern text p t ∙ h) plain
