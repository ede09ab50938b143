-- The exits of the parser of documents.
use Rattle.std.proofs.Common.{◌≡◌, Bool, true, false, ◌==◌, List, [], ◌∷◌, length}
use Rattle.std.proofs.Common.{Some, None, sym, ◌∙◌, ap, subst, arith, eqb-true}
use Rattle.gm_base.proofs.Options.{no_some}
use Rattle.gm_types.specs.Specification.{Specification}
use Rattle.gm_ecql.specs.declared.halt.Halt.{Halt}
use Rattle.gm_ecql.specs.declared.halt.Halt.TheVariants as halt
use Rattle.gm_ecql.specs.declared.token.Spaced.{Spaced}
use Rattle.gm_ecql.specs.Grammar.{SpellsJudged}
use Rattle.gm_ecql.specs.Halt.{Halts}
use Rattle.gm_ecql.specs.Judging.{Judged}
use Rattle.gm_ecql.specs.Parser.{document, factor_at, filter_with, if_last}
use Rattle.gm_ecql.specs.Reader.{◌>>=◌}
use Rattle.gm_ecql.specs.Token.{Seen, seen_all}
use Rattle.gm_ecql.proofs.GrammarFound.{document_complete}
use Rattle.gm_ecql.proofs.GrammarSound.{document_sound}
use Rattle.gm_ecql.proofs.Turns.{halts_then}

module _ (s : Specification) (ts : List Seen) where
  pub filter_halts : (e : Halt) → Halts (filter_with (factor_at s (length ts)) (length ts) ts) e
      → Halts (document s ts) e
  filter_halts e h =
      halts_then (λ j. if_last j.0 j.1) (filter_with (factor_at s (length ts)) (length ts) ts) e h

  pub none_is : (e : Halt) → Halts (document s ts) e → e ≡ halt.Syntax → (j : Judged)
      → SpellsJudged s ts j → ⊥
  none_is e h same j w =
      no_some j (sym (subst (λ z. Halts (document s ts) z) same h) ∙ document_complete s ts j w)

  pub more_is : (j : Judged) (rest : List Spaced)
      → filter_with (factor_at s (length ts)) (length ts) ts ≡ Some (j, seen_all rest)
      → (x : Bool) → x ≡ (length rest == 0) → x ≡ false → document s ts ≡ None
  more_is j [] h x e f = absurd (cc)
  more_is j (t ∷ rest) h x e f = ap (λ o. o >>= (λ j. if_last j.0 j.1)) h

  pub found_is : (j : Judged) (rest : List Spaced)
      → filter_with (factor_at s (length ts)) (length ts) ts ≡ Some (j, seen_all rest)
      → (x : Bool) → x ≡ (length rest == 0) → x ≡ true → SpellsJudged s ts j
  found_is j [] h x e f = document_sound s ts j (ap (λ o. o >>= (λ j. if_last j.0 j.1)) h)
  found_is j (t ∷ rest) h x e f = absurd (omega (arith, eqb-true (length (t ∷ rest)) 0 (sym e ∙ f)))
