-- The name of a reference system has no quote, so quotes that were written twice do not matter.
use Rattle.std.proofs.Common.{◌≡◌, ℕ, Bool, true, false, ◌&&◌, ◌==◌, cond, List, [], ◌∷◌, refl, sym}
use Rattle.std.proofs.Common.{ap, ◌∙◌, eqb-true}
use Rattle.std.specs.Str.{bytes_eq}
use Rattle.gm_ecql.specs.Token.{undoubled_from}

-- no byte is a quote
abbrev Unquoted : List ℕ → Type 0
Unquoted [] = Unit {0}
Unquoted (e ∷ es) = ((39 == e) ≡ false) × Unquoted es

quote_first : (b : ℕ) (ts es : List ℕ) → b ≡ 39 → Unquoted es → bytes_eq (b ∷ ts) es ≡ false
quote_first b ts [] h u = refl
quote_first b ts (e ∷ es) h u =
    ap (λ z. (z == e) && bytes_eq ts es) h ∙ ap (λ x. x && bytes_eq ts es) u.0

pub same_unquoted : (ts es : List ℕ) → Unquoted es
    → bytes_eq ts es ≡ bytes_eq (undoubled_from false ts) es
same_unquoted [] es u = refl
same_unquoted (b ∷ ts) [] u = by_quote (b == 39)
  where
    by_quote : (x : Bool)
        → false ≡ bytes_eq (cond x (39 ∷ undoubled_from true ts) (b ∷ undoubled_from false ts)) []
    by_quote true = refl
    by_quote false = refl
same_unquoted (b ∷ ts) (e ∷ es) u = by_quote (b == 39) refl (same_unquoted ts es u.1)
  where
    by_quote : (x : Bool) → (b == 39) ≡ x → bytes_eq ts es ≡ bytes_eq (undoubled_from false ts) es
        → bytes_eq (b ∷ ts) (e ∷ es)
        ≡ bytes_eq (cond x (39 ∷ undoubled_from true ts) (b ∷ undoubled_from false ts)) (e ∷ es)
    by_quote true h i =
        quote_first b ts (e ∷ es) (eqb-true b 39 h) u
        ∙ sym (quote_first 39 (undoubled_from true ts) (e ∷ es) refl u)
    by_quote false h i = ap (λ x. (b == e) && x) i
