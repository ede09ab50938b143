-- What is read without a fault suits the type.
use Rattle.std.proofs.Common.{◌≡◌, ℕ, ◌<◌, Bool, true, false, ◌&&◌, cond, List, []}
use Rattle.std.proofs.Common.{◌∷◌, ◌++◌, length, Option, Some, None, option_map, refl, sym, ◌∙◌, ap}
use Rattle.std.proofs.Common.{subst, arith}
use Rattle.std.specs.Prelude.{nat_le}
use Rattle.std.specs.List.{list_all}
use Rattle.std.specs.Str.{is_utf8}
use Rattle.std.proofs.lemmas.Bool.{le-leb, and_parts}
use Rattle.std.proofs.lemmas.List.Folds.{list_all-append}
use Rattle.gm_base.proofs.Options.{same_some, no_some}
use Rattle.gm_types.specs.Specification.{Specification, place_of_name, kind_at}
use Rattle.gm_filter.specs.Suitability.{Suits, suits, all_suit}
use Rattle.gm_filter.specs.Tree as tree
use Rattle.gm_filter.specs.Tree.{Tree, tree_and, trees_of, members_of, all, any}
use Rattle.gm_ecql.specs.Grammar.{Factor, lone, not_factor, in_brackets, Factors, no_factors}
use Rattle.gm_ecql.specs.Grammar.{and_factor, Terms, no_terms, or_term, factor_tokens}
use Rattle.gm_ecql.specs.Grammar.{factors_tokens, terms_tokens, IsFactor, AreFactors, AreTerms}
use Rattle.gm_ecql.specs.Grammar.{IsTest, test_tokens, by_commas, closing, Members}
use Rattle.gm_ecql.specs.Grammar.{no_members, add_member, with_member, group, grouped, negated_of}
use Rattle.gm_ecql.specs.Grammar.{factor_judged, factors_judged, terms_judged, SpellsJudged}
use Rattle.gm_ecql.specs.Judging.{NameFaults, Judged, faultless, first_faults, first_name, kept}
use Rattle.gm_ecql.specs.Judging.{judged_at, judged, candidate, is_date_kind}
use Rattle.gm_ecql.specs.Judging.{is_spelled, sound, unknown, bad}
use Rattle.gm_ecql.specs.Test.{Trial, include, exclude, ids, named, Question}
use Rattle.gm_ecql.specs.Token.{Seen, a_keyword, a_name, a_text, an_instant, a_number, a_symbol}
use Rattle.gm_ecql.proofs.TestFirst.{mapped}
use Rattle.gm_ecql.proofs.GrammarFound.{with_is}

abbrev pub has_utf8 : Seen → Bool
has_utf8 (a_keyword k) = true
has_utf8 (a_name bytes) = true
has_utf8 (a_text bytes) = is_utf8 bytes
has_utf8 (an_instant at) = true
has_utf8 (a_number bytes) = true
has_utf8 (a_symbol s) = true

-- each text is UTF-8
abbrev pub are_utf8 : List Seen → Bool
are_utf8 ts = list_all has_utf8 ts

pub joined_utf8 : (xs ys : List Seen) → are_utf8 (xs ++ ys) ≡ true
    → (are_utf8 xs ≡ true) × (are_utf8 ys ≡ true)
joined_utf8 xs ys h =
    and_parts (are_utf8 xs) (are_utf8 ys) (sym (list_all-append has_utf8 xs ys) ∙ h)

texts_utf8 : (texts : List (List ℕ)) → are_utf8 (by_commas a_text texts) ≡ true
    → list_all is_utf8 texts ≡ true
texts_utf8 [] h = refl
texts_utf8 (t ∷ []) h = h
texts_utf8 (t ∷ u ∷ us) h =
    let p = and_parts (is_utf8 t) (are_utf8 (by_commas a_text (u ∷ us))) h in
    ap (λ x. x && list_all is_utf8 (u ∷ us)) p.0 ∙ texts_utf8 (u ∷ us) p.1

-- a name beside no later one
first_none : (x y : Option (List ℕ)) → first_name x y ≡ None → (x ≡ None) × (y ≡ None)
first_none None y h = (refl, h)
first_none (Some n) y h = absurd (cc)

pub no_faults : (f : NameFaults) → f.unknown ≡ None → f.bad ≡ None → f ≡ faultless
no_faults f e g =
    ap (λ u. record { unknown = u; bad = f.bad }) e ∙ ap (λ b. record { unknown = None; bad = b }) g

pub first_faultless : (a b : NameFaults) → first_faults a b ≡ faultless
    → (a ≡ faultless) × (b ≡ faultless)
first_faultless a b h =
    let u = first_none a.unknown b.unknown (ap (λ f. f.unknown) h) in
    let d = first_none a.bad b.bad (ap (λ f. f.bad) h) in
    (no_faults a u.0 d.0, no_faults b u.1 d.1)

some_name : {P : Type 0} (name : List ℕ) → Some name ≡ None → P
some_name name e = absurd (cc)

module _ (s : Specification) where
  kept_suits : (name : List ℕ) (o : Option Tree) → (kept s name o).faults ≡ faultless
      → Suits s (kept s name o).meaning
  kept_suits name None h = some_name name (ap (λ f. f.bad) h)
  kept_suits name (Some t) h = by_test (suits s t) refl h
    where
      by_test : (x : Bool) → suits s t ≡ x → (cond x (sound t) (bad name)).faults ≡ faultless
          → suits s (cond x (sound t) (bad name)).meaning ≡ true
      by_test true e g = e
      by_test false e g = some_name name (ap (λ f. f.bad) g)

  named_suits : (name : List ℕ) (q : Question) (o : Option ℕ) (j : Judged)
      → judged_at s name q o ≡ Some j → j.faults ≡ faultless → Suits s j.meaning
  named_suits name q None j h e = by_spelled (is_spelled q) h
    where
      by_spelled : (x : Bool) → cond x (Some (unknown name)) None ≡ Some j → Suits s j.meaning
      by_spelled true g =
          some_name name
          (ap (λ f. f.unknown) (ap (λ j. j.faults) (same_some (unknown name) j g) ∙ e))
      by_spelled false g = no_some j g
  named_suits name q (Some a) j h e =
      let m = mapped (candidate a (is_date_kind (kind_at s a)) q) (kept s name) j h in
      subst (λ k. Suits s k.meaning) m.2 (kept_suits name m.0 (ap (λ k. k.faults) m.2 ∙ e))

  some_texts : (texts : List (List ℕ)) → 0 < length texts → nat_le 1 (length texts) ≡ true
  some_texts texts h = le-leb 1 (length texts) h

  test_suits : (t : Trial) (j : Judged) → IsTest t → are_utf8 (test_tokens t) ≡ true
      → judged s t ≡ Some j → j.faults ≡ faultless → Suits s j.meaning
  unfolding judged
  test_suits include j p u h e =
      subst (λ k. Suits s k.meaning) (same_some (sound tree.include) j h) refl
  test_suits exclude j p u h e =
      subst (λ k. Suits s k.meaning) (same_some (sound tree.exclude) j h) refl
  test_suits (ids texts) j p u h e =
      let inside = joined_utf8 (by_commas a_text texts) (closing ∷ []) u in
      subst (λ k. Suits s k.meaning) (same_some (sound (tree.ids texts)) j h)
      (ap (λ x. x && list_all is_utf8 texts) (some_texts texts p) ∙ texts_utf8 texts inside.0)
  test_suits (named name q) j p u h e = named_suits name q (place_of_name s name) j h e

  -- each member suits the type
  AllSuit : List Tree → Type 0
  AllSuit [] = Unit {0}
  AllSuit (t ∷ ts) = Suits s t × AllSuit ts

  all_suit_of : (ts : List Tree) → AllSuit ts → all_suit s (trees_of ts) ≡ true
  unfolding AllSuit
  all_suit_of [] a = refl
  all_suit_of (t ∷ ts) a = ap (λ x. x && all_suit s (trees_of ts)) a.0 ∙ all_suit_of ts a.1

  two_or_more : (t u : Tree) (us : List Tree)
      → nat_le 2 (length (members_of (tree_and t (tree_and u (trees_of us))))) ≡ true
  two_or_more t u us =
      le-leb 2 (length (members_of (tree_and t (tree_and u (trees_of us))))) (omega arith)

  all_suits : (t : Tree) (ts : List Tree) → Suits s t → AllSuit ts → Suits s (group all (t ∷ ts))
  unfolding AllSuit
  all_suits t [] p a = p
  all_suits t (u ∷ us) p a =
      ap (λ x. x && (suits s t && all_suit s (trees_of (u ∷ us)))) (two_or_more t u us)
      ∙ ap (λ x. x && all_suit s (trees_of (u ∷ us))) p ∙ all_suit_of (u ∷ us) a

  any_suits : (t : Tree) (ts : List Tree) → Suits s t → AllSuit ts → Suits s (group any (t ∷ ts))
  unfolding AllSuit
  any_suits t [] p a = p
  any_suits t (u ∷ us) p a =
      ap (λ x. x && (suits s t && all_suit s (trees_of (u ∷ us)))) (two_or_more t u us)
      ∙ ap (λ x. x && all_suit s (trees_of (u ∷ us))) p ∙ all_suit_of (u ∷ us) a

  AllSuitAt : Option Members → Type 0
  AllSuitAt o = (ms : Members) → o ≡ Some ms → ms.faults ≡ faultless → AllSuit ms.members

  SuitsAt : Option Judged → Type 0
  SuitsAt o = (j : Judged) → o ≡ Some j → j.faults ≡ faultless → Suits s j.meaning

  member_suits : (a : Option Judged) (b : Option Members) → SuitsAt a → AllSuitAt b
      → (ms : Members) → with_member a b ≡ Some ms → ms.faults ≡ faultless
      → (j : Judged) × (us : Members) × (add_member j us ≡ ms) × Suits s j.meaning
      × AllSuit us.members
  unfolding AllSuitAt SuitsAt
  member_suits a b f g ms h e =
      let w = with_is a b ms h in
      let p = first_faultless w.0.faults w.1.faults (ap (λ m. m.faults) w.4 ∙ e) in
      (w.0, w.1, w.4, f w.0 w.2 p.0, g w.1 w.3 p.1)

  with_suits : (a : Option Judged) (b : Option Members) → SuitsAt a → AllSuitAt b
      → AllSuitAt (with_member a b)
  unfolding AllSuitAt AllSuit
  with_suits a b f g = λ ms h e.
      let m = member_suits a b f g ms h e in
      subst (λ z. AllSuit z.members) m.2 (m.3, m.4)

  term_suits : (a : Option Judged) (b : Option Members) → SuitsAt a → AllSuitAt b
      → SuitsAt (option_map (grouped all) (with_member a b))
  unfolding SuitsAt
  term_suits a b f g = λ j h e.
      let o = mapped (with_member a b) (grouped all) j h in
      let m = member_suits a b f g o.0 o.1 (ap (λ k. k.faults) o.2 ∙ e) in
      subst (λ k. Suits s k.meaning) (ap (grouped all) m.2 ∙ o.2)
      (all_suits m.0.meaning m.1.members m.3 m.4)

  terms_suit : (a : Option Judged) (b : Option Members) → SuitsAt a → AllSuitAt b
      → SuitsAt (option_map (grouped any) (with_member a b))
  unfolding SuitsAt
  terms_suit a b f g = λ j h e.
      let o = mapped (with_member a b) (grouped any) j h in
      let m = member_suits a b f g o.0 o.1 (ap (λ k. k.faults) o.2 ∙ e) in
      subst (λ k. Suits s k.meaning) (ap (grouped any) m.2 ∙ o.2)
      (any_suits m.0.meaning m.1.members m.3 m.4)

  none_suit : AllSuitAt (Some no_members)
  unfolding AllSuitAt AllSuit
  none_suit = λ ms h e. subst (λ m. AllSuit m.members) (same_some no_members ms h) tt

  not_suits : (o : Option Judged) → SuitsAt o → SuitsAt (option_map negated_of o)
  unfolding SuitsAt
  not_suits o f = λ j h e.
      let m = mapped o negated_of j h in
      subst (λ k. Suits s k.meaning) m.2 (f m.0 m.1 (ap (λ k. k.faults) m.2 ∙ e))

mutual
  unfolding SuitsAt AllSuitAt

  factor_suits : (s : Specification) (f : Factor) → IsFactor f → are_utf8 (factor_tokens f) ≡ true
      → SuitsAt s (factor_judged s f)
  factor_suits s (lone t) p u = λ j h e. test_suits s t j p u h e
  factor_suits s (not_factor f) p u = not_suits s (factor_judged s f) (factor_suits s f p u)
  factor_suits s (in_brackets f fs ts) p u =
      let a = joined_utf8 (factor_tokens f)
      (factors_tokens fs ++ (terms_tokens ts ++ closing ∷ [])) u in
      let b = joined_utf8 (factors_tokens fs) (terms_tokens ts ++ closing ∷ []) a.1 in
      let c = joined_utf8 (terms_tokens ts) (closing ∷ []) b.1 in
      terms_suit s _ _ (term_suits s _ _ (factor_suits s f p.0 a.0) (factors_suit s fs p.1.0 b.0))
      (terms_suit_all s ts p.1.1 c.0)

  factors_suit : (s : Specification) (fs : Factors) → AreFactors fs
      → are_utf8 (factors_tokens fs) ≡ true → AllSuitAt s (factors_judged s fs)
  factors_suit s no_factors p u = none_suit s
  factors_suit s (and_factor f fs) p u =
      let a = joined_utf8 (factor_tokens f) (factors_tokens fs) u in
      with_suits s _ _ (factor_suits s f p.0 a.0) (factors_suit s fs p.1 a.1)

  terms_suit_all : (s : Specification) (ts : Terms) → AreTerms ts
      → are_utf8 (terms_tokens ts) ≡ true → AllSuitAt s (terms_judged s ts)
  terms_suit_all s no_terms p u = none_suit s
  terms_suit_all s (or_term f fs ts) p u =
      let a = joined_utf8 (factor_tokens f) (factors_tokens fs ++ terms_tokens ts) u in
      let b = joined_utf8 (factors_tokens fs) (terms_tokens ts) a.1 in
      with_suits s _ _ (term_suits s _ _ (factor_suits s f p.0 a.0) (factors_suit s fs p.1.0 b.0))
      (terms_suit_all s ts p.1.1 b.1)

pub spelled_suits : (s : Specification) (ts : List Seen) (j : Judged) → are_utf8 ts ≡ true
    → SpellsJudged s ts j → j.faults ≡ faultless → Suits s j.meaning
unfolding SuitsAt
spelled_suits s ts j u w e =
    let v : are_utf8 (factor_tokens w.first ++ (factors_tokens w.factors ++ terms_tokens w.terms))
    ≡ true = ap are_utf8 (sym w.written) ∙ u in
    let a = joined_utf8 (factor_tokens w.first)
    (factors_tokens w.factors ++ terms_tokens w.terms) v in
    let b = joined_utf8 (factors_tokens w.factors) (terms_tokens w.terms) a.1 in
    terms_suit s _ _
    (term_suits s _ _ (factor_suits s w.first w.formed.0 a.0)
    (factors_suit s w.factors w.formed.1.0 b.0))
    (terms_suit_all s w.terms w.formed.1.1 b.1) j w.means e
