-- What is read as a filter is written there.
use Rattle.std.proofs.Common.{◌≡◌, ℕ, zero, suc, List, [], ◌∷◌, ◌++◌, length, Option, Some}
use Rattle.std.proofs.Common.{option_map, refl, sym, ◌∙◌, ap, subst, append_assoc, append-nil}
use Rattle.std.proofs.Common.{inl, inr}
use Rattle.gm_base.proofs.Options.{same_some, no_some}
use Rattle.gm_types.specs.Specification.{Specification}
use Rattle.gm_filter.specs.Tree.{all, any}
use Rattle.gm_ecql.specs.declared.keyword.Keyword.{Keyword}
use Rattle.gm_ecql.specs.declared.keyword.Keyword.TheVariants as keyword
use Rattle.gm_ecql.specs.declared.token.Symbol.TheVariants as symbol
use Rattle.gm_ecql.specs.Grammar.{Factor, lone, not_factor, in_brackets, Factors, no_factors}
use Rattle.gm_ecql.specs.Grammar.{and_factor, Terms, no_terms, or_term, factor_tokens}
use Rattle.gm_ecql.specs.Grammar.{factors_tokens, terms_tokens, IsFactor, AreFactors, AreTerms}
use Rattle.gm_ecql.specs.Grammar.{Members, no_members, add_member, with_member, grouped, negated_of}
use Rattle.gm_ecql.specs.Grammar.{factor_judged, factors_judged, terms_judged, SpellsJudged}
use Rattle.gm_ecql.specs.Grammar.{closing}
use Rattle.gm_ecql.specs.Judging.{Judged, judged}
use Rattle.gm_ecql.specs.Parser.{judged_at, members_with, more, term_with, filter_with}
use Rattle.gm_ecql.specs.Parser.{closed, factor_step, factor_at, if_last, document}
use Rattle.gm_ecql.specs.Reader.{Reader, ◌>>=◌, or_else, after_keyword, after_symbol, test_at}
use Rattle.gm_ecql.specs.Token.{Seen, a_keyword, a_symbol}
use Rattle.gm_ecql.proofs.Readers.{keyword_first, symbol_first}
use Rattle.gm_ecql.proofs.TestFirst.{bound, mapped, chose}
use Rattle.gm_ecql.proofs.TestSound.{test_there}

module _ (s : Specification) where
  pub record FactorThere (ts : List Seen) (j : Judged) (rest : List Seen) : Type 0 where
    pub factor : Factor
    pub formed : IsFactor factor
    pub written : ts ≡ factor_tokens factor ++ rest
    pub means : factor_judged s factor ≡ Some j

  pub record FactorsThere (ts : List Seen) (ms : Members) (rest : List Seen) : Type 0 where
    pub factors : Factors
    pub formed : AreFactors factors
    pub written : ts ≡ factors_tokens factors ++ rest
    pub means : factors_judged s factors ≡ Some ms

  abbrev pub term_judged : Factor → Factors → Option Judged
  term_judged f fs =
      option_map (grouped all) (with_member (factor_judged s f) (factors_judged s fs))

  pub record TermThere (ts : List Seen) (j : Judged) (rest : List Seen) : Type 0 where
    pub first : Factor
    pub factors : Factors
    pub formed : IsFactor first × AreFactors factors
    pub written : ts ≡ factor_tokens first ++ (factors_tokens factors ++ rest)
    pub means : term_judged first factors ≡ Some j

  pub record TermsThere (ts : List Seen) (ms : Members) (rest : List Seen) : Type 0 where
    pub terms : Terms
    pub formed : AreTerms terms
    pub written : ts ≡ terms_tokens terms ++ rest
    pub means : terms_judged s terms ≡ Some ms

  pub record FilterThere (ts : List Seen) (j : Judged) (rest : List Seen) : Type 0 where
    pub first : Factor
    pub factors : Factors
    pub terms : Terms
    pub formed : IsFactor (in_brackets first factors terms)
    pub written : ts
        ≡ factor_tokens first ++ (factors_tokens factors ++ (terms_tokens terms ++ rest))
    pub means : factor_judged s (in_brackets first factors terms) ≡ Some j

  abbrev AreFactorsRead : Reader Judged → Type 0
  AreFactorsRead item =
      (ts : List Seen) (r : Judged × List Seen) → item ts ≡ Some r → FactorThere ts r.0 r.1

  abbrev AreTermsRead : Reader Judged → Type 0
  AreTermsRead item =
      (ts : List Seen) (r : Judged × List Seen) → item ts ≡ Some r → TermThere ts r.0 r.1

  abbrev step : Keyword → Reader Judged → Reader Members → Reader Members
  step word item inner ts =
      or_else (after_keyword word ts) (λ rest. item rest >>= (λ j. members_with j.0 (inner j.1)))
      (Some (no_members, ts))

  member_of : (a : Option Judged) (b : Option Members) (j : Judged) (ms : Members) → a ≡ Some j
      → b ≡ Some ms
      → with_member a b ≡ Some (add_member j ms)
  member_of a b j ms e f = ap (λ x. with_member x b) e ∙ ap (with_member (Some j)) f

  factors_step : (item : Reader Judged) → AreFactorsRead item → (inner : Reader Members)
      → ((ts : List Seen) (r : Members × List Seen) → inner ts ≡ Some r → FactorsThere ts r.0 r.1)
      → (ts : List Seen) (r : Members × List Seen) → step keyword.And item inner ts ≡ Some r
      → FactorsThere ts r.0 r.1
  factors_step item sound inner behind ts r h =
      elim (chose (after_keyword keyword.And ts) _ _ _ h) [
        | inl c ↦
            let one = bound (item c.0) _ r c.2 in
            let two = mapped (inner one.0.1) (λ ms. (add_member one.0.0 ms.0, ms.1)) r one.2 in
            let f = sound c.0 one.0 one.1 in
            let fs = behind one.0.1 two.0 two.1 in
            subst (λ p. FactorsThere ts p.0 p.1) two.2 (record {
              factors = and_factor f.factor fs.factors;
              formed = (f.formed, fs.formed);
              written = keyword_first keyword.And ts c.0 c.1
                  ∙ ap (λ z. a_keyword keyword.And ∷ z)
                  (f.written ∙ ap (λ z. factor_tokens f.factor ++ z) fs.written
                  ∙ sym (append_assoc (factor_tokens f.factor)
                  (factors_tokens fs.factors) two.0.1));
              means = member_of (factor_judged s f.factor) (factors_judged s fs.factors)
                  one.0.0 two.0.0
                  f.means fs.means;
            })
        | inr c ↦ subst (λ p. FactorsThere ts p.0 p.1) (same_some (no_members, ts) r c.1)
            (record { factors = no_factors; formed = tt; written = refl; means = refl })
      ]

  factors_more : (item : Reader Judged) → AreFactorsRead item
      → (n : ℕ) (ts : List Seen) (r : Members × List Seen)
      → more keyword.And item n ts ≡ Some r → FactorsThere ts r.0 r.1
  unfolding more
  factors_more item sound zero ts r h = elim (chose (after_keyword keyword.And ts) _ _ _ h) [
    | inl c ↦ no_some r c.2
    | inr c ↦ subst (λ p. FactorsThere ts p.0 p.1) (same_some (no_members, ts) r c.1)
        (record { factors = no_factors; formed = tt; written = refl; means = refl })
  ]
  factors_more item sound (suc n) ts r h =
      factors_step item sound (more keyword.And item n) (factors_more item sound n) ts r h

  term_read : (item : Reader Judged) → AreFactorsRead item → (n : ℕ)
      → AreTermsRead (term_with item n)
  term_read item sound n ts r h =
      let one = bound (item ts) _ r h in
      let two = mapped (members_with one.0.0 (more keyword.And item n one.0.1))
      (λ ms. (grouped all ms.0, ms.1)) r one.2 in
      let three = mapped (more keyword.And item n one.0.1) (λ ms. (add_member one.0.0 ms.0, ms.1))
      two.0 two.1 in
      let f = sound ts one.0 one.1 in
      let fs = factors_more item sound n one.0.1 three.0 three.1 in
      subst (λ p. TermThere ts p.0 p.1)
      (ap (λ ms. (grouped all ms.0, ms.1)) three.2 ∙ two.2) (record {
        first = f.factor;
        factors = fs.factors;
        formed = (f.formed, fs.formed);
        written = f.written ∙ ap (λ z. factor_tokens f.factor ++ z) fs.written;
        means = ap (option_map (grouped all))
            (member_of (factor_judged s f.factor) (factors_judged s fs.factors) one.0.0 three.0.0
            f.means fs.means);
      })

  terms_step : (item : Reader Judged) → AreTermsRead item → (inner : Reader Members)
      → ((ts : List Seen) (r : Members × List Seen) → inner ts ≡ Some r → TermsThere ts r.0 r.1)
      → (ts : List Seen) (r : Members × List Seen) → step keyword.Or item inner ts ≡ Some r
      → TermsThere ts r.0 r.1
  terms_step item sound inner behind ts r h = elim (chose (after_keyword keyword.Or ts) _ _ _ h) [
    | inl c ↦
        let one = bound (item c.0) _ r c.2 in
        let two = mapped (inner one.0.1) (λ ms. (add_member one.0.0 ms.0, ms.1)) r one.2 in
        let f = sound c.0 one.0 one.1 in
        let fs = behind one.0.1 two.0 two.1 in
        let a = factor_tokens f.first in
        let b = factors_tokens f.factors in
        let d = terms_tokens fs.terms in
        subst (λ p. TermsThere ts p.0 p.1) two.2 (record {
          terms = or_term f.first f.factors fs.terms;
          formed = (f.formed.0, (f.formed.1, fs.formed));
          written = keyword_first keyword.Or ts c.0 c.1
              ∙ ap (λ z. a_keyword keyword.Or ∷ z)
              (f.written ∙ ap (λ z. a ++ (b ++ z)) fs.written ∙ three_joined a b d two.0.1);
          means = member_of (term_judged f.first f.factors) (terms_judged s fs.terms) one.0.0
              two.0.0 f.means fs.means;
        })
    | inr c ↦ subst (λ p. TermsThere ts p.0 p.1) (same_some (no_members, ts) r c.1)
        (record { terms = no_terms; formed = tt; written = refl; means = refl })
  ]
    where
      three_joined : (a b d rest : List Seen) → a ++ (b ++ (d ++ rest)) ≡ (a ++ (b ++ d)) ++ rest
      three_joined a b d rest = simp append_assoc

  terms_more : (item : Reader Judged) → AreTermsRead item
      → (n : ℕ) (ts : List Seen) (r : Members × List Seen)
      → more keyword.Or item n ts ≡ Some r → TermsThere ts r.0 r.1
  unfolding more
  terms_more item sound zero ts r h = elim (chose (after_keyword keyword.Or ts) _ _ _ h) [
    | inl c ↦ no_some r c.2
    | inr c ↦ subst (λ p. TermsThere ts p.0 p.1) (same_some (no_members, ts) r c.1)
        (record { terms = no_terms; formed = tt; written = refl; means = refl })
  ]
  terms_more item sound (suc n) ts r h =
      terms_step item sound (more keyword.Or item n) (terms_more item sound n) ts r h

  filter_read : (factor : Reader Judged) → AreFactorsRead factor
      → (n : ℕ) (ts : List Seen) (r : Judged × List Seen)
      → filter_with factor n ts ≡ Some r → FilterThere ts r.0 r.1
  filter_read factor sound n ts r h =
      let item = term_with factor n in
      let one = bound (item ts) _ r h in
      let two = mapped (members_with one.0.0 (more keyword.Or item n one.0.1))
      (λ ms. (grouped any ms.0, ms.1)) r one.2 in
      let three = mapped (more keyword.Or item n one.0.1) (λ ms. (add_member one.0.0 ms.0, ms.1))
      two.0 two.1 in
      let f = term_read factor sound n ts one.0 one.1 in
      let fs = terms_more item (term_read factor sound n) n one.0.1 three.0 three.1 in
      subst (λ p. FilterThere ts p.0 p.1)
      (ap (λ ms. (grouped any ms.0, ms.1)) three.2 ∙ two.2) (record {
        first = f.first;
        factors = f.factors;
        terms = fs.terms;
        formed = (f.formed.0, (f.formed.1, fs.formed));
        written = f.written
            ∙ ap (λ z. factor_tokens f.first ++ (factors_tokens f.factors ++ z)) fs.written;
        means = ap (option_map (grouped any))
            (member_of (term_judged f.first f.factors) (terms_judged s fs.terms) one.0.0 three.0.0
            f.means fs.means);
      })

  lone_read : (ts : List Seen) (r : Judged × List Seen) → judged_at s ts ≡ Some r
      → FactorThere ts r.0 r.1
  lone_read ts r h =
      let a = bound (test_at ts) _ r h in
      let b = mapped (judged s a.0.0) (λ j. (j, a.0.1)) r a.2 in
      let t = test_there ts a.0 a.1 in
      subst (λ p. FactorThere ts p.0 p.1) b.2
      (record { factor = lone a.0.0; formed = t.formed; written = t.written; means = b.1 })

  closed_read : (factor : Reader Judged) → AreFactorsRead factor
      → (n : ℕ) (ts behind : List Seen) (r : Judged × List Seen)
      → ts ≡ a_symbol symbol.Opening ∷ behind → closed (filter_with factor n behind) ≡ Some r
      → FactorThere ts r.0 r.1
  closed_read factor sound n ts behind r e h =
      let one = bound (filter_with factor n behind) _ r h in
      let two = mapped (after_symbol symbol.Closing one.0.1) (λ rest. (one.0.0, rest)) r one.2 in
      let f = filter_read factor sound n behind one.0 one.1 in
      let a = factor_tokens f.first in
      let b = factors_tokens f.factors in
      let d = terms_tokens f.terms in
      subst (λ p. FactorThere ts p.0 p.1) two.2 (record {
        factor = in_brackets f.first f.factors f.terms;
        formed = f.formed;
        written = e ∙ ap (λ z. a_symbol symbol.Opening ∷ z) (f.written
            ∙ ap (λ z. a ++ (b ++ (d ++ z))) (symbol_first symbol.Closing one.0.1 two.0 two.1)
            ∙ inside a b d two.0);
        means = f.means;
      })
    where
      inside : (a b d rest : List Seen)
          → a ++ (b ++ (d ++ closing ∷ rest)) ≡ (a ++ (b ++ (d ++ closing ∷ []))) ++ rest
      inside a b d rest = simp append_assoc

  step_read : (factor : Reader Judged) → AreFactorsRead factor → (n : ℕ)
      → AreFactorsRead (factor_step s factor (filter_with factor n))
  step_read factor sound n ts r h = elim (chose (after_keyword keyword.Not ts) _ _ _ h) [
    | inl c ↦
        let m = mapped (factor c.0) (λ j. (negated_of j.0, j.1)) r c.2 in
        let f = sound c.0 m.0 m.1 in
        subst (λ p. FactorThere ts p.0 p.1) m.2 (record {
          factor = not_factor f.factor;
          formed = f.formed;
          written = keyword_first keyword.Not ts c.0 c.1
              ∙ ap (λ z. a_keyword keyword.Not ∷ z) f.written;
          means = ap (option_map negated_of) f.means;
        })
    | inr c ↦ elim (chose (after_symbol symbol.Opening ts) _ _ _ c.1) [
      | inl c ↦ closed_read factor sound n ts c.0 r (symbol_first symbol.Opening ts c.0 c.1) c.2
      | inr c ↦ lone_read ts r c.1
    ]
  ]

  factor_read : (n : ℕ) → AreFactorsRead (factor_at s n)
  unfolding factor_at
  factor_read zero ts r h = no_some r h
  factor_read (suc n) ts r h = step_read (factor_at s n) (factor_read n) n ts r h

  is_last : (j k : Judged) (ts : List Seen) → if_last j ts ≡ Some k → (j ≡ k) × (ts ≡ [])
  is_last j k [] h = (same_some j k h, refl)
  is_last j k (x ∷ ts) h = no_some k h

  -- what is read is spelled so
  pub document_sound : (ts : List Seen) (j : Judged) → document s ts ≡ Some j → SpellsJudged s ts j
  document_sound ts j h =
      let n = length ts in
      let one = bound (filter_with (factor_at s n) n ts) _ j h in
      let f = filter_read (factor_at s n) (factor_read n) n ts one.0 one.1 in
      let e = is_last one.0.0 j one.0.1 one.2 in
      record {
        first = f.first;
        factors = f.factors;
        terms = f.terms;
        formed = f.formed;
        written = f.written
            ∙ ap (λ z. factor_tokens f.first
            ++ (factors_tokens f.factors ++ (terms_tokens f.terms ++ z))) e.1
            ∙ ap (λ z. factor_tokens f.first ++ (factors_tokens f.factors ++ z))
            (append-nil (terms_tokens f.terms));
        means = f.means ∙ ap (λ z. Some z) e.0;
      }
