-- The tokens of a text as a function, and what its answers say.
use Rattle.std.proofs.Common.{◌≡◌, ℕ, zero, suc, ◌<◌, ◌≤◌, Bool, false, cond, List, [], ◌∷◌}
use Rattle.std.proofs.Common.{map, length, Some, None, option_map, refl, sym}
use Rattle.std.proofs.Common.{ap, ◌∙◌, subst, arith, inl, inr}
use Rattle.std.specs.Prelude.{Result, Ok, Err, IfOk, IfErr}
use Rattle.gm_base.proofs.Options.{same_some, no_some}
use Rattle.gm_ecql.specs.declared.halt.Halt.{Halt}
use Rattle.gm_ecql.specs.declared.halt.Halt.TheVariants as halt
use Rattle.gm_ecql.specs.Halt.{Gives}
use Rattle.std.specs.List.{prefix_len}
use Rattle.gm_ecql.specs.declared.token.Spaced.{Spaced}
use Rattle.gm_base.specs.Ascii.{is_blank}
use Rattle.gm_ecql.specs.Token.{Seen, IsUnspaced, Spells, SpellsTokens}
use Rattle.gm_ecql.specs.Token.{seen, seen_spaced, seen_all, unspaced}
use Rattle.gm_ecql.specs.Scanner.{token_at, skip_blanks}
use Rattle.gm_ecql.specs.Outcome.{has_blank_first, listed_with, tokens_within, tokens_of}
use Rattle.gm_ecql.proofs.Sound.{chosen}
use Rattle.gm_ecql.proofs.Lists.{first_found, found_first, no_found, token_nil, token_shorter}
use Rattle.gm_ecql.proofs.Lists.{blank_spells_none, unspaced_without_blank}

pub within_complete : (n : ℕ) (text : List ℕ) (ts : List (Bool × Seen)) → length text ≤ n
    → Spells text ts → tokens_within n text ≡ Some ts
unfolding tokens_within
within_complete n [] [] h s = refl
within_complete n [] (t ∷ ts) h s =
    no_found (token_at (skip_blanks [])) t.1 s.0 token_nil (first_found [] t.0 t.1 s.0 s.1).0
within_complete zero (b ∷ bs) ts h s = absurd (omega (arith, h))
within_complete (suc n) (b ∷ bs) [] h s = absurd (cc)
within_complete (suc n) (b ∷ bs) (t ∷ ts) h s =
    let f = first_found (b ∷ bs) t.0 t.1 s.0 s.1 in
    let fewer = token_shorter (b ∷ bs) s.0 t.1 (prefix_len is_blank (b ∷ bs)) f.0 in
    let later : tokens_within n s.0 ≡ Some ts =
    within_complete n s.0 ts (omega (arith, h, fewer)) s.2 in
    ap (listed_with (has_blank_first (b ∷ bs)) (tokens_within n)) f.0
    ∙ ap (option_map (λ us. (has_blank_first (b ∷ bs), t.1) ∷ us)) later
    ∙ ap (λ z. Some ((z, t.1) ∷ ts)) (sym f.1)

pub within_sound : (n : ℕ) (text : List ℕ) (ts : List (Bool × Seen))
    → tokens_within n text ≡ Some ts → Spells text ts
unfolding tokens_within
within_sound n [] ts e = subst (λ z. Spells [] z) (same_some [] ts e) refl
within_sound zero (b ∷ bs) ts e = no_some ts e
within_sound (suc n) (b ∷ bs) ts e =
    elim (token_at (skip_blanks (b ∷ bs))) as
    (λ o. token_at (skip_blanks (b ∷ bs)) ≡ o
    → listed_with (has_blank_first (b ∷ bs)) (tokens_within n) o ≡ Some ts
    → Spells (b ∷ bs) ts) [
      | None ↦ λ h e. no_some ts e
      | Some found ↦
          λ h e. elim (tokens_within n found.1) as
          (λ o. tokens_within n found.1 ≡ o
          → option_map (λ us. (has_blank_first (b ∷ bs), found.0) ∷ us) o ≡ Some ts
          → Spells (b ∷ bs) ts) [
            | None ↦ λ k e. no_some ts e
            | Some us ↦ λ k e. subst (λ z. Spells (b ∷ bs) z)
                (same_some ((has_blank_first (b ∷ bs), found.0) ∷ us) ts e) (
                  found.1,
                  found_first (b ∷ bs) (has_blank_first (b ∷ bs)) found.0 found.1 h refl,
                  within_sound n found.1 us k,
                )
          ] refl e
    ] refl e

-- no blank first, where none is told
no_blank : (text : List ℕ) (ts : List (Bool × Seen)) → SpellsTokens text ts
    → has_blank_first text ≡ false
no_blank text [] s = ap has_blank_first s.spelled
no_blank text (t ∷ ts) s = sym (first_found text t.0 t.1 s.spelled.0 s.spelled.1).1 ∙ s.unspaced

pub tokens_complete : (text : List ℕ) (ts : List (Bool × Seen)) → SpellsTokens text ts
    → tokens_of text ≡ Some ts
unfolding tokens_of
tokens_complete text ts s =
    ap (λ x. cond x None (tokens_within (length text) text)) (no_blank text ts s)
    ∙ within_complete (length text) text ts (omega arith) s.spelled

told_unspaced : (text : List ℕ) (ts : List (Bool × Seen)) → has_blank_first text ≡ false
    → Spells text ts → IsUnspaced ts
told_unspaced text [] e s = tt
told_unspaced text (t ∷ ts) e s = (first_found text t.0 t.1 s.0 s.1).1 ∙ e

pub tokens_sound : (text : List ℕ) (ts : List (Bool × Seen)) → tokens_of text ≡ Some ts
    → SpellsTokens text ts
unfolding tokens_of
tokens_sound text ts e =
    elim (chosen (has_blank_first text) None (tokens_within (length text) text) (Some ts) e) [
      | inl p ↦ no_some ts p.1
      | inr p ↦
          let s = within_sound (length text) text ts p.1 in
          record { spelled = s; unspaced = told_unspaced text ts p.0 s }
    ]

-- where no list is spelled there are no tokens
pub tokens_none : (text : List ℕ) → ((ts : List (Bool × Seen)) → SpellsTokens text ts → ⊥)
    → tokens_of text ≡ None
tokens_none text none = elim (tokens_of text) as (λ o. tokens_of text ≡ o → tokens_of text ≡ None) [
  | None ↦ λ e. e
  | Some ts ↦ λ e. absurd (none ts (tokens_sound text ts e))
] refl

pub blank_spelled : (text : List ℕ) (n : ℕ) → n ≡ prefix_len is_blank text → 0 < n
    → (ts : List (Bool × Seen)) → SpellsTokens text ts → ⊥
blank_spelled text n e some ts s = blank_spells_none text ts (subst (λ z. 0 < z) e some) s

-- a text with a blank first has none
pub blank_none : (text : List ℕ) (n : ℕ) → n ≡ prefix_len is_blank text → 0 < n
    → tokens_of text ≡ None
blank_none text n e some = tokens_none text (blank_spelled text n e some)

no_blank_first : (text : List ℕ) (n : ℕ) → n ≡ prefix_len is_blank text → n ≤ 0
    → prefix_len is_blank text ≡ 0
no_blank_first text n e none = omega (arith, e, none)

module _ {V : Type 0} (view : V → List (Bool × Seen)) (text : List ℕ) (n : ℕ)
    (count : n ≡ prefix_len is_blank text) (bare : n ≤ 0) where
  spelled_all : (ts : List (Bool × Seen)) → Spells text ts → SpellsTokens text ts
  spelled_all ts s =
      record {
        spelled = s;
        unspaced = unspaced_without_blank text ts (no_blank_first text n count bare) s;
      }

  pub tokens_given : (r : Result V Halt) → IfOk r (λ v. Spells text (view v))
      → IfErr r (λ e. e ≡ halt.Syntax → (ts : List (Bool × Seen)) → Spells text ts → ⊥)
      → Gives view (tokens_of text) r
  tokens_given (Ok v) found none = tokens_complete text (view v) (spelled_all (view v) found)
  tokens_given (Err halt.Syntax) found none = tokens_none text (λ ts s. none refl ts s.spelled)
  tokens_given (Err halt.NoMemory) found none = tt

  pub tokens_found : (r : Result V Halt) → IfOk r (λ v. Spells text (view v))
      → IfOk r (λ v. SpellsTokens text (view v))
  tokens_found (Ok v) found = spelled_all (view v) found
  tokens_found (Err e) found = tt

  pub tokens_missed : (r : Result V Halt)
      → IfErr r (λ e. e ≡ halt.Syntax → (ts : List (Bool × Seen)) → Spells text ts → ⊥)
      → IfErr r (λ e. e ≡ halt.Syntax → (ts : List (Bool × Seen)) → SpellsTokens text ts → ⊥)
  tokens_missed (Ok v) none = tt
  tokens_missed (Err e) none = λ is ts s. none is ts s.spelled

pub none_spelled : (text : List ℕ) (ts : List (Bool × Seen)) → tokens_of text ≡ None
    → SpellsTokens text ts → ⊥
none_spelled text ts e s = no_some {P = ⊥} ts (sym e ∙ tokens_complete text ts s)

pub unspaced_seen : (ts : List Spaced) → unspaced (map seen_spaced ts) ≡ seen_all ts
unspaced_seen [] = refl
unspaced_seen (t ∷ ts) = ap (λ z. seen t.token ∷ z) (unspaced_seen ts)
