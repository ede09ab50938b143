-- A text with a quote spells no instant, nor does it without the quotes that were written twice.
use Rattle.std.proofs.Common.{◌≡◌, ℕ, Bool, true, false, ◌==◌, cond, List, [], ◌∷◌, Option}
use Rattle.std.proofs.Common.{Some, None, refl, sym, ap, ◌∙◌, subst, eqb-true}
use Rattle.std.specs.Prelude.{ℤ}
use Rattle.std.specs.List.{list_all}
use Rattle.std.proofs.lemmas.Bool.{and_parts}
use Rattle.gm_calendar.specs.Spelling.{instant_of, is_instant_byte}
use Rattle.gm_ecql.specs.Token.{undoubled, undoubled_from}

quote_is_none : {P : Type 0} (b : ℕ) → (b == 39) ≡ true → is_instant_byte b ≡ true → P
quote_is_none b e h = absurd (other (subst (λ z. is_instant_byte z ≡ true) (eqb-true b 39 e) h))
  where
    other : is_instant_byte 39 ≡ true → ⊥
    other e = absurd (cc)

whole_same : (t : List ℕ) → list_all is_instant_byte t ≡ true → undoubled_from false t ≡ t
whole_same [] a = refl
whole_same (b ∷ t) a = by_quote (b == 39) refl (whole_same t (and_parts (is_instant_byte b) _ a).1)
  where
    by_quote : (x : Bool) → (b == 39) ≡ x → undoubled_from false t ≡ t
        → cond x (39 ∷ undoubled_from true t) (b ∷ undoubled_from false t) ≡ b ∷ t
    by_quote true e i = quote_is_none b e (and_parts (is_instant_byte b) _ a).0
    by_quote false e i = ap (λ z. b ∷ z) i

undone_same : (t : List ℕ) → list_all is_instant_byte (undoubled_from false t) ≡ true
    → undoubled_from false t ≡ t
undone_same [] a = refl
undone_same (b ∷ t) a = by_quote (b == 39) a (undone_same t)
  where
    by_quote : (x : Bool)
        → list_all is_instant_byte
        (cond x (39 ∷ undoubled_from true t) (b ∷ undoubled_from false t)) ≡ true
        → (list_all is_instant_byte (undoubled_from false t) ≡ true → undoubled_from false t ≡ t)
        → cond x (39 ∷ undoubled_from true t) (b ∷ undoubled_from false t) ≡ b ∷ t
    by_quote true g i =
        quote_is_none 39 refl
        (and_parts (is_instant_byte 39) (list_all is_instant_byte (undoubled_from true t)) g).0
    by_quote false g i =
        ap (λ z. b ∷ z)
        (i (and_parts (is_instant_byte b) (list_all is_instant_byte (undoubled_from false t)) g).1)

pub instant_same : ((text : List ℕ) (at : ℤ) → instant_of text ≡ Some at
    → list_all is_instant_byte text ≡ true) → (t : List ℕ) → instant_of t ≡ instant_of (undoubled t)
instant_same bytes t = by_both (instant_of t) (instant_of (undoubled t)) refl refl
  where
    by_both : (x y : Option ℤ) → instant_of t ≡ x → instant_of (undoubled t) ≡ y → x ≡ y
    by_both (Some a) y e f = sym e ∙ ap instant_of (sym (whole_same t (bytes t a e))) ∙ f
    by_both None None e f = refl
    by_both None (Some b) e f =
        sym e ∙ ap instant_of (sym (undone_same t (bytes (undoubled t) b f))) ∙ f
