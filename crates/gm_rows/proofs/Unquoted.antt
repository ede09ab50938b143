-- Fields that stand without quotes.
use Rattle.std.proofs.Common.{◌≡◌, ◌==◌, ◌∷◌, ◌∙◌, [], ℕ, List, Bool, true, false, refl, sym, ap}
use Rattle.std.proofs.Common.{inl, inr, ◌||◌, ◌&&◌, ◌++◌}
use Rattle.std.specs.Prelude.{if◌then◌else◌}
use Rattle.std.specs.List.{list_all}
use Rattle.std.proofs.lemmas.Bool.{cases_Bool, eqb-true, and_parts, false≢true, or_from}
use Rattle.gm_rows.specs.Printer.{is_marked, has_marked, begins_with_mark, doubled, printed}

-- a test that no comma, double quote, 0x0D or first byte of U+FEFF passes
pub record IsPlainTest (test : ℕ → Bool) : Type 0 where
  pub comma : test 44 ≡ false
  pub quote : test 34 ≡ false
  pub return : test 13 ≡ false
  pub mark : test 239 ≡ false

other : (test : ℕ → Bool) (b x : ℕ) → test x ≡ false → test b ≡ true → (b == x) ≡ false
other test b x low h = elim (cases_Bool (b == x)) [
  | inl e ↦ absurd (false≢true (sym low ∙ ap test (sym (eqb-true b x e)) ∙ h))
  | inr e ↦ e
]

unmarked : (test : ℕ → Bool) → IsPlainTest test → (bytes : List ℕ) → list_all test bytes ≡ true
    → has_marked bytes ≡ false
unmarked test plain [] h = refl
unmarked test plain (b ∷ bytes) h =
    let parts = and_parts (test b) (list_all test bytes) h in
    let low = or_from ((b == 44) || (b == 34)) (b == 13)
    (or_from (b == 44) (b == 34) (other test b 44 plain.comma parts.0)
    (other test b 34 plain.quote parts.0))
    (other test b 13 plain.return parts.0) in
    or_from (is_marked b) (has_marked bytes) low (unmarked test plain bytes parts.1)

false_first : (x y z : Bool) → x ≡ false → (x && y && z) ≡ false
false_first false y z e = refl
false_first true y z e = absurd (false≢true (sym e))

no_mark : (test : ℕ → Bool) → IsPlainTest test → (bytes : List ℕ) → list_all test bytes ≡ true
    → begins_with_mark bytes ≡ false
no_mark test plain [] h = refl
no_mark test plain (a ∷ []) h = refl
no_mark test plain (a ∷ b ∷ []) h = refl
no_mark test plain (a ∷ b ∷ c ∷ rest) h =
    false_first (a == 239) (b == 187) (c == 191)
    (other test a 239 plain.mark (and_parts (test a) (list_all test (b ∷ c ∷ rest)) h).0)

-- bytes that all pass such a test are printed as they are
pub unquoted : (test : ℕ → Bool) → IsPlainTest test → (bytes : List ℕ) → list_all test bytes ≡ true
    → printed bytes ≡ bytes
unquoted test plain bytes h =
    ap (λ q. if q then 34 ∷ (doubled bytes ++ (34 ∷ [])) else bytes)
    (or_from (has_marked bytes) (begins_with_mark bytes) (unmarked test plain bytes h)
    (no_mark test plain bytes h))
