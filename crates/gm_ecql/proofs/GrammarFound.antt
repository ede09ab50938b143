-- A filter that is written is read.
use Rattle.std.proofs.Common.{◌≡◌, ℕ, zero, suc, ◌≤◌, List, [], ◌∷◌, ◌++◌, length, Option}
use Rattle.std.proofs.Common.{Some, None, option_map, refl, sym, ◌∙◌, ap, arith}
use Rattle.std.proofs.Common.{append_assoc, length-append, append-nil}
use Rattle.gm_base.proofs.Options.{same_some, no_some}
use Rattle.gm_types.specs.Specification.{Specification}
use Rattle.gm_filter.specs.Tree.{all, any}
use Rattle.gm_ecql.specs.declared.keyword.Keyword.{Keyword}
use Rattle.gm_ecql.specs.declared.keyword.Keyword.TheVariants as keyword
use Rattle.gm_ecql.specs.declared.token.Symbol.TheVariants as symbol
use Rattle.gm_ecql.specs.declared.test.Relation.TheVariants as relation
use Rattle.gm_ecql.specs.Grammar.{Factor, lone, not_factor, in_brackets, Factors, no_factors}
use Rattle.gm_ecql.specs.Grammar.{and_factor, Terms, no_terms, or_term, factor_tokens}
use Rattle.gm_ecql.specs.Grammar.{factors_tokens, terms_tokens, IsFactor, AreFactors, AreTerms}
use Rattle.gm_ecql.specs.Grammar.{IsTest, test_tokens, Members, no_members, add_member, with_member}
use Rattle.gm_ecql.specs.Grammar.{grouped, negated_of, factor_judged, factors_judged, terms_judged}
use Rattle.gm_ecql.specs.Grammar.{SpellsJudged, closing}
use Rattle.gm_ecql.specs.Judging.{Judged, judged}
use Rattle.gm_ecql.specs.Parser.{members_with, more, term_with, filter_with}
use Rattle.gm_ecql.specs.Parser.{closed, factor_at, if_last, document}
use Rattle.gm_ecql.specs.Reader.{Reader, ◌>>=◌, after_keyword, after_symbol}
use Rattle.gm_ecql.specs.Test.{Trial, include, exclude, ids, named, in_box, related, compared}
use Rattle.gm_ecql.specs.Test.{between, like, one_of, null, during, timed}
use Rattle.gm_ecql.specs.Token.{Seen, a_keyword, a_symbol}
use Rattle.gm_ecql.proofs.TestFirst.{mapped}
use Rattle.gm_ecql.proofs.TestFound.{test_found}

-- both parts of what is joined are there
pub with_is : (a : Option Judged) (b : Option Members) (ms : Members) → with_member a b ≡ Some ms
    → (j : Judged) × (us : Members) × (a ≡ Some j) × (b ≡ Some us) × (add_member j us ≡ ms)
with_is None b ms h = no_some ms h
with_is (Some j) None ms h = no_some ms h
with_is (Some j) (Some us) ms h = (j, us, refl, refl, same_some (add_member j us) ms h)

no_not : (t : Trial) (rest : List Seen) → after_keyword keyword.Not (test_tokens t ++ rest) ≡ None
no_not include rest = refl
no_not exclude rest = refl
no_not (ids texts) rest = refl
no_not (named name (in_box sides system)) rest = refl
no_not (named name (related relation.Intersects piece)) rest = refl
no_not (named name (related relation.Disjoint piece)) rest = refl
no_not (named name (related relation.Within piece)) rest = refl
no_not (named name (compared o w)) rest = refl
no_not (named name (between n low high)) rest = refl
no_not (named name (like n pattern)) rest = refl
no_not (named name (one_of n ws)) rest = refl
no_not (named name (null n)) rest = refl
no_not (named name (during low high)) rest = refl
no_not (named name (timed t at)) rest = refl

no_opening : (t : Trial) (rest : List Seen)
    → after_symbol symbol.Opening (test_tokens t ++ rest) ≡ None
no_opening include rest = refl
no_opening exclude rest = refl
no_opening (ids texts) rest = refl
no_opening (named name (in_box sides system)) rest = refl
no_opening (named name (related r piece)) rest = refl
no_opening (named name (compared o w)) rest = refl
no_opening (named name (between n low high)) rest = refl
no_opening (named name (like n pattern)) rest = refl
no_opening (named name (one_of n ws)) rest = refl
no_opening (named name (null n)) rest = refl
no_opening (named name (during low high)) rest = refl
no_opening (named name (timed t at)) rest = refl

test_some : (t : Trial) (rest : List Seen) → test_tokens t ++ rest ≡ [] → ⊥
test_some include rest e = absurd (cc)
test_some exclude rest e = absurd (cc)
test_some (ids texts) rest e = absurd (cc)
test_some (named name (in_box sides system)) rest e = absurd (cc)
test_some (named name (related r piece)) rest e = absurd (cc)
test_some (named name (compared o w)) rest e = absurd (cc)
test_some (named name (between n low high)) rest e = absurd (cc)
test_some (named name (like n pattern)) rest e = absurd (cc)
test_some (named name (one_of n ws)) rest e = absurd (cc)
test_some (named name (null n)) rest e = absurd (cc)
test_some (named name (during low high)) rest e = absurd (cc)
test_some (named name (timed t at)) rest e = absurd (cc)

no_length : (ts : List Seen) → length ts ≤ 0 → ts ≡ []
no_length [] h = refl
no_length (t ∷ ts) h = absurd (omega arith)

no_and : (ts : Terms) (rest : List Seen) → after_keyword keyword.And rest ≡ None
    → after_keyword keyword.And (terms_tokens ts ++ rest) ≡ None
no_and no_terms rest h = h
no_and (or_term f fs ts) rest h = refl

module _ (word : Keyword) (item : Reader Judged) where
  more_one : (k : ℕ) (ts later next rest : List Seen) (j : Judged) (ms : Members)
      → after_keyword word ts ≡ Some later
      → item later ≡ Some (j, next) → more word item k next ≡ Some (ms, rest)
      → more word item (suc k) ts ≡ Some (add_member j ms, rest)
  unfolding more
  more_one k ts later next rest j ms a h i = rw (a, h, i) refl

  more_end : (k : ℕ) (ts : List Seen) → after_keyword word ts ≡ None
      → more word item k ts ≡ Some (no_members, ts)
  unfolding more
  more_end zero ts a = rw a refl
  more_end (suc k) ts a = rw a refl

term_reads : (item : Reader Judged) (n : ℕ) (ts x y : List Seen) (j : Judged) (us : Members)
    → item ts ≡ Some (j, x)
    → more keyword.And item n x ≡ Some (us, y)
    → term_with item n ts ≡ Some (grouped all (add_member j us), y)
term_reads item n ts x y j us h i = rw (h, i) refl

filter_reads : (item : Reader Judged) (n : ℕ) (ts y rest : List Seen) (j : Judged) (vs : Members)
    → term_with item n ts ≡ Some (j, y) → more keyword.Or (term_with item n) n y ≡ Some (vs, rest)
    → filter_with item n ts ≡ Some (grouped any (add_member j vs), rest)
filter_reads item n ts y rest j vs h i =
    ap (λ o. o >>= (λ j. option_map (λ ms. (grouped any ms.0, ms.1))
    (members_with j.0 (more keyword.Or (term_with item n) n j.1)))) h
    ∙ ap (λ o. option_map (λ ms. (grouped any ms.0, ms.1)) (members_with j o)) i

module _ (s : Specification) where
  lone_reads : (n : ℕ) (t : Trial) (rest : List Seen) (j : Judged) → IsTest t → judged s t ≡ Some j
      → factor_at s (suc n) (test_tokens t ++ rest) ≡ Some (j, rest)
  unfolding factor_at
  lone_reads n t rest j p h =
      rw (no_not t rest, no_opening t rest, test_found t rest p, h) refl

  not_reads : (n : ℕ) (ts rest : List Seen) (j : Judged) → factor_at s n ts ≡ Some (j, rest)
      → factor_at s (suc n) (a_keyword keyword.Not ∷ ts) ≡ Some (negated_of j, rest)
  unfolding factor_at
  not_reads n ts rest j h = ap (option_map (λ j. (negated_of j.0, j.1))) h

  close_reads : (n : ℕ) (ts rest : List Seen) (j : Judged)
      → filter_with (factor_at s n) n ts ≡ Some (j, closing ∷ rest)
      → factor_at s (suc n) (a_symbol symbol.Opening ∷ ts) ≡ Some (j, rest)
  unfolding factor_at
  close_reads n ts rest j h = ap closed h

  -- what all parts of a term and of the terms behind it stand for
  filter_parts : (f : Factor) (fs : Factors) (ts : Terms) (j : Judged)
      → factor_judged s (in_brackets f fs ts) ≡ Some j
      → (a : Judged) × (us : Members) × (vs : Members) × (factor_judged s f ≡ Some a)
      × (factors_judged s fs ≡ Some us)
      × (terms_judged s ts ≡ Some vs)
      × (grouped any (add_member (grouped all (add_member a us)) vs) ≡ j)
  filter_parts f fs ts j h =
      let one = mapped
      (with_member (option_map (grouped all)
      (with_member (factor_judged s f) (factors_judged s fs))) (terms_judged s ts))
      (grouped any) j h in
      let two = with_is
      (option_map (grouped all) (with_member (factor_judged s f) (factors_judged s fs)))
      (terms_judged s ts) one.0 one.1 in
      let three = mapped (with_member (factor_judged s f) (factors_judged s fs)) (grouped all)
      two.0 two.2 in
      let four = with_is (factor_judged s f) (factors_judged s fs) three.0 three.1 in
      let same : grouped any (add_member (grouped all (add_member four.0 four.1)) two.1) ≡ j =
      ap (λ z. grouped any (add_member (grouped all z) two.1)) four.4
      ∙ ap (λ z. grouped any (add_member z two.1)) three.2
      ∙ ap (grouped any) two.4 ∙ one.2 in
      (four.0, four.1, two.1, four.2, four.3, two.3, same)

  -- by what its parts are read as
  filter_complete : (f : Factor) (fs : Factors) (ts : Terms) (x y rest : List Seen)
      (n : ℕ) (j : Judged)
      → factor_judged s (in_brackets f fs ts) ≡ Some j
      → ((j : Judged) → factor_judged s f ≡ Some j
      → factor_at s n (factor_tokens f ++ x) ≡ Some (j, x))
      → ((ms : Members) → factors_judged s fs ≡ Some ms
      → more keyword.And (factor_at s n) n x ≡ Some (ms, y))
      → ((ms : Members) → terms_judged s ts ≡ Some ms
      → more keyword.Or (term_with (factor_at s n) n) n y ≡ Some (ms, rest))
      → filter_with (factor_at s n) n (factor_tokens f ++ x) ≡ Some (j, rest)
  filter_complete f fs ts x y rest n j h a b c =
      let k = filter_parts f fs ts j h in
      filter_reads (factor_at s n) n (factor_tokens f ++ x) y rest
      (grouped all (add_member k.0 k.1)) k.2
      (term_reads (factor_at s n) n (factor_tokens f ++ x) x y k.0 k.1 (a k.0 k.3) (b k.1 k.4))
      (c k.2 k.5)
      ∙ ap (λ z. Some (z, rest)) k.6

mutual
  complete_factor : (s : Specification) (f : Factor) (rest : List Seen) (n : ℕ) (j : Judged)
      → IsFactor f → factor_judged s f ≡ Some j
      → length (factor_tokens f ++ rest) ≤ n
      → factor_at s n (factor_tokens f ++ rest) ≡ Some (j, rest)
  complete_factor s (lone t) rest zero j p h fits =
      absurd (test_some t rest (no_length (test_tokens t ++ rest) fits))
  complete_factor s (lone t) rest (suc n) j p h fits = lone_reads s n t rest j p h
  complete_factor s (not_factor f) rest zero j p h fits = absurd (omega arith)
  complete_factor s (not_factor f) rest (suc n) j p h fits =
      let m = mapped (factor_judged s f) negated_of j h in
      not_reads s n (factor_tokens f ++ rest) rest m.0
      (complete_factor s f rest n m.0 p m.1 (omega arith))
      ∙ ap (λ z. Some (z, rest)) m.2
  complete_factor s (in_brackets f fs ts) rest zero j p h fits = absurd (omega arith)
  complete_factor s (in_brackets f fs ts) rest (suc n) j p h fits =
      let y : List Seen = terms_tokens ts ++ closing ∷ rest in
      let x : List Seen = factors_tokens fs ++ y in
      let regrouped : (factor_tokens f ++ (factors_tokens fs ++ (terms_tokens ts ++ closing ∷ [])))
      ++ rest ≡ factor_tokens f ++ x = simp append_assoc in
      let l : length
      ((factor_tokens f ++ (factors_tokens fs ++ (terms_tokens ts ++ closing ∷ []))) ++ rest)
      ≡ length (factor_tokens f ++ x) = ap length regrouped in
      let whole : length (factor_tokens f ++ x) ≤ n = omega arith in
      let lx : length x ≤ n = omega (arith, length-append (factor_tokens f) x) in
      let ly : length y ≤ n = omega (arith, length-append (factors_tokens fs) y) in
      ap (λ z. factor_at s (suc n) (a_symbol symbol.Opening ∷ z)) regrouped
      ∙ close_reads s n (factor_tokens f ++ x) rest j
      (filter_complete s f fs ts x y (closing ∷ rest) n j h
      (λ j h. complete_factor s f x n j p.0 h whole)
      (λ ms h. complete_factors s fs y n n ms (no_and ts (closing ∷ rest) refl) p.1.0 h lx lx)
      (λ ms h. complete_terms s ts (closing ∷ rest) n n ms refl refl p.1.1 h ly ly))

  complete_factors : (s : Specification) (fs : Factors) (rest : List Seen) (n k : ℕ) (ms : Members)
      → after_keyword keyword.And rest ≡ None
      → AreFactors fs → factors_judged s fs ≡ Some ms → length (factors_tokens fs ++ rest) ≤ n
      → length (factors_tokens fs ++ rest) ≤ k
      → more keyword.And (factor_at s n) k (factors_tokens fs ++ rest) ≡ Some (ms, rest)
  complete_factors s no_factors rest n k ms last p h fits turns =
      more_end keyword.And (factor_at s n) k rest last
      ∙ ap (λ z. Some (z, rest)) (same_some no_members ms h)
  complete_factors s (and_factor f fs) rest n zero ms last p h fits turns = absurd (omega arith)
  complete_factors s (and_factor f fs) rest n (suc k) ms last p h fits turns =
      let x : List Seen = factors_tokens fs ++ rest in
      let regrouped : (factor_tokens f ++ factors_tokens fs) ++ rest ≡ factor_tokens f ++ x =
      simp append_assoc in
      let l : length ((factor_tokens f ++ factors_tokens fs) ++ rest)
      ≡ length (factor_tokens f ++ x) = ap length regrouped in
      let whole : length (factor_tokens f ++ x) ≤ n = omega arith in
      let b = with_is (factor_judged s f) (factors_judged s fs) ms h in
      let lx : length x ≤ n = omega (arith, length-append (factor_tokens f) x) in
      let lk : length x ≤ k = omega (arith, length-append (factor_tokens f) x) in
      more_one keyword.And (factor_at s n) k (factors_tokens (and_factor f fs) ++ rest)
      (factor_tokens f ++ x) x rest b.0 b.1
      (ap (λ z. Some z) regrouped) (complete_factor s f x n b.0 p.0 b.2 whole)
      (complete_factors s fs rest n k b.1 last p.1 b.3 lx lk)
      ∙ ap (λ z. Some (z, rest)) b.4

  complete_terms : (s : Specification) (ts : Terms) (rest : List Seen) (n k : ℕ) (ms : Members)
      → after_keyword keyword.And rest ≡ None
      → after_keyword keyword.Or rest ≡ None → AreTerms ts → terms_judged s ts ≡ Some ms
      → length (terms_tokens ts ++ rest) ≤ n → length (terms_tokens ts ++ rest) ≤ k
      → more keyword.Or (term_with (factor_at s n) n) k (terms_tokens ts ++ rest) ≡ Some (ms, rest)
  complete_terms s no_terms rest n k ms last end p h fits turns =
      more_end keyword.Or (term_with (factor_at s n) n) k rest end
      ∙ ap (λ z. Some (z, rest)) (same_some no_members ms h)
  complete_terms s (or_term f fs ts) rest n zero ms last end p h fits turns = absurd (omega arith)
  complete_terms s (or_term f fs ts) rest n (suc k) ms last end p h fits turns =
      let y : List Seen = terms_tokens ts ++ rest in
      let x : List Seen = factors_tokens fs ++ y in
      let regrouped : (factor_tokens f ++ (factors_tokens fs ++ terms_tokens ts)) ++ rest
      ≡ factor_tokens f ++ x = simp append_assoc in
      let l : length ((factor_tokens f ++ (factors_tokens fs ++ terms_tokens ts)) ++ rest)
      ≡ length (factor_tokens f ++ x) = ap length regrouped in
      let whole : length (factor_tokens f ++ x) ≤ n = omega arith in
      let lx : length x ≤ n = omega (arith, length-append (factor_tokens f) x) in
      let ly : length y ≤ n =
      omega (arith, length-append (factor_tokens f) x, length-append (factors_tokens fs) y) in
      let lk : length y ≤ k =
      omega (arith, length-append (factor_tokens f) x, length-append (factors_tokens fs) y) in
      let b = with_is
      (option_map (grouped all) (with_member (factor_judged s f) (factors_judged s fs)))
      (terms_judged s ts) ms h in
      let c = mapped (with_member (factor_judged s f) (factors_judged s fs))
      (grouped all) b.0 b.2 in
      let d = with_is (factor_judged s f) (factors_judged s fs) c.0 c.1 in
      let made : grouped all (add_member d.0 d.1) ≡ b.0 = ap (grouped all) d.4 ∙ c.2 in
      more_one keyword.Or (term_with (factor_at s n) n) k (terms_tokens (or_term f fs ts) ++ rest)
      (factor_tokens f ++ x) y rest b.0 b.1
      (ap (λ z. Some z) regrouped)
      (term_reads (factor_at s n) n (factor_tokens f ++ x) x y d.0 d.1
      (complete_factor s f x n d.0 p.0 d.2 whole)
      (complete_factors s fs y n n d.1 (no_and ts rest last) p.1.0 d.3 lx lx)
      ∙ ap (λ z. Some (z, y)) made)
      (complete_terms s ts rest n k b.1 last end p.1.1 b.3 ly lk)
      ∙ ap (λ z. Some (z, rest)) b.4

-- what is spelled is read
pub document_complete : (s : Specification) (ts : List Seen) (j : Judged) → SpellsJudged s ts j
    → document s ts ≡ Some j
document_complete s ts j w =
    let f = w.first in
    let fs = w.factors in
    let rest = w.terms in
    let e : ts ≡ factor_tokens f ++ (factors_tokens fs ++ (terms_tokens rest ++ [])) =
    w.written ∙ ap (λ z. factor_tokens f ++ (factors_tokens fs ++ z))
    (sym (append-nil (terms_tokens rest))) in
    let y : List Seen = terms_tokens rest ++ [] in
    let x : List Seen = factors_tokens fs ++ y in
    let n = length (factor_tokens f ++ x) in
    let lx : length x ≤ n = omega (arith, length-append (factor_tokens f) x) in
    let ly : length y ≤ n =
    omega (arith, length-append (factor_tokens f) x, length-append (factors_tokens fs) y) in
    ap (λ z. document s z) e
    ∙ ap (λ o. o >>= (λ j. if_last j.0 j.1)) (filter_complete s f fs rest x y [] n j w.means
    (λ j h. complete_factor s f x n j w.formed.0 h (omega arith))
    (λ ms h. complete_factors s fs y n n ms (no_and rest [] refl) w.formed.1.0 h lx lx)
    (λ ms h. complete_terms s rest [] n n ms refl refl w.formed.1.1 h ly ly))
