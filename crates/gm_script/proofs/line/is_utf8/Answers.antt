use Rattle.std.proofs.Common.{◌≡◌, ◌∙◌, false, sym, List, ℕ, inl, inr, Result, Ok, Err}
use Rattle.std.specs.Result.{MatchResult, is_ok}
use Rattle.std.specs.Str.{is_utf8}
use Rattle.std.specs.Prelude.{IsUtf8}
use Rattle.std.proofs.lemmas.Bool.{cases_Bool}
use Rattle.std.proofs.lemmas.Str.{IsUtf8-from_is_utf8, is_utf8-from_IsUtf8}
use Rattle.gm_script.proofs.line.is_utf8.Goals as goal

broken : (bytes : List ℕ) → ¬ IsUtf8 bytes → is_utf8 bytes ≡ false
broken bytes h = elim (cases_Bool (is_utf8 bytes)) [
  | inl e ↦ absurd (h (IsUtf8-from_is_utf8 bytes e))
  | inr e ↦ e
]

decided : {T E : Type 0} (P : T → Type 0) (Q : E → Type 0) (bytes : List ℕ) (r : Result T E)
    → MatchResult r (λ x. P x × IsUtf8 bytes) (λ e. (¬ IsUtf8 bytes) × Q e)
    → is_ok r ≡ is_utf8 bytes
decided P Q bytes (Ok x) h = sym (is_utf8-from_IsUtf8 bytes h.1)
decided P Q bytes (Err e) h = sym (broken bytes h.0)

pub returns : goal.returns
returns c =
    c.is_ok.ensures.value
    ∙ decided _ _ c.args.bytes.now c.from_utf8.result c.from_utf8.ensures.cases
