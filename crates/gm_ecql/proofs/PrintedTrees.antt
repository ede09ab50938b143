-- The printed text of a filter is the tokens of a way to write it.
use Rattle.std.proofs.Common.{◌≡◌, ℕ, Bool, true, false, ◌&&◌, List, [], ◌∷◌, ◌++◌, length, codes}
use Rattle.std.proofs.Common.{Some, option_map, refl, sym, ◌∙◌, ap, subst, append_assoc, append-nil}
use Rattle.std.specs.Prelude.{nat_le}
use Rattle.std.proofs.lemmas.Bool.{and_parts}
use Rattle.gm_filter.specs.Suitability.{Suits, suits, all_suit}
use Rattle.gm_filter.specs.Tree.{Tree, Trees, include, exclude, negated, all, any, compare, between}
use Rattle.gm_filter.specs.Tree.{like, one_of, is_null, ids, bbox, intersects, disjoint, within}
use Rattle.gm_filter.specs.Tree.{during, before, after, tequals, no_trees, tree_and, trees_of}
use Rattle.gm_filter.specs.Tree.{members_of}
use Rattle.gm_types.specs.FeatureType.{IsType}
use Rattle.gm_types.specs.Specification.{Specification}
use Rattle.gm_ecql.specs.declared.keyword.Keyword.TheVariants as keyword
use Rattle.gm_ecql.specs.Fault.{SpellsFilter}
use Rattle.gm_ecql.specs.Grammar.{opening, closing, Factor, lone, not_factor, in_brackets, Factors}
use Rattle.gm_ecql.specs.Grammar.{no_factors, and_factor, Terms, no_terms, or_term, factor_tokens}
use Rattle.gm_ecql.specs.Grammar.{factors_tokens, terms_tokens, IsFactor, AreFactors, AreTerms}
use Rattle.gm_ecql.specs.Grammar.{Members, no_members, with_member, group, grouped}
use Rattle.gm_ecql.specs.Grammar.{negated_of, factor_judged, factors_judged, terms_judged}
use Rattle.gm_ecql.specs.Judging.{faultless, sound}
use Rattle.gm_ecql.specs.Printer.{inner, listed, printed, test_text}
use Rattle.gm_ecql.specs.Token.{Seen, a_keyword, IsUnspaced, Spells}
use Rattle.gm_ecql.proofs.Lexemes.{Lexeme, spaced_of, AreSpelled}
use Rattle.gm_ecql.proofs.Lexemes.{FirstIs, Lexed, lexed, numbers_apart, unspaced_tokens}
use Rattle.gm_ecql.proofs.PrintedTests.{Below, Tested, include_tested, exclude_tested}
use Rattle.gm_ecql.proofs.PrintedTests.{compare_tested, between_tested, like_tested, one_of_tested}
use Rattle.gm_ecql.proofs.PrintedTests.{null_tested, ids_tested, bbox_tested, intersects_tested}
use Rattle.gm_ecql.proofs.PrintedTests.{disjoint_tested, within_tested, during_tested}
use Rattle.gm_ecql.proofs.PrintedTests.{before_tested, after_tested, tequals_tested}
use Rattle.gm_ecql.proofs.PrintedWords.{keyword_piece}
use Rattle.gm_ecql.proofs.Sequences.{opened, join, piece_then, blank_then, opening_then}
use Rattle.gm_ecql.proofs.Sequences.{closing_last}

trees_back : (ts : Trees) → trees_of (members_of ts) ≡ ts
trees_back no_trees = refl
trees_back (tree_and t ts) = ap (tree_and t) (trees_back ts)

-- two or more make one tree again
grouped_back : (make : Trees → Tree) (t : Tree) (ts : Trees)
    → nat_le 2 (length (t ∷ members_of ts)) ≡ true
    → group make (t ∷ members_of ts) ≡ make (tree_and t ts)
grouped_back make t no_trees h = absurd (cc)
grouped_back make t (tree_and u us) h = ap (λ z. make (tree_and t (tree_and u z))) (trees_back us)

abbrev members_sound : Trees → Members
members_sound ts = record { members = members_of ts; faults = faultless }

module _ (s : Specification) where
  -- a filter inside another
  pub record Inside (t : Tree) : Type 0 where
    factor : Factor
    lexed : (b : Bool) → Lexed b (inner s t) (factor_tokens factor)
    formed : IsFactor factor
    means : factor_judged s factor ≡ Some (sound t)

  -- what stands behind the first of an And, and of an Or
  record Ands (ts : Trees) : Type 0 where
    factors : Factors
    lexed : (b : Bool) (x : List ℕ) (r : List Seen) → Lexed b x r
        → Lexed b (x ++ listed s false (codes " AND ") ts) (r ++ factors_tokens factors)
    formed : AreFactors factors
    means : factors_judged s factors ≡ Some (members_sound ts)

  record Ors (ts : Trees) : Type 0 where
    terms : Terms
    lexed : (b : Bool) (x : List ℕ) (r : List Seen) → Lexed b x r
        → Lexed b (x ++ listed s false (codes " OR ") ts) (r ++ terms_tokens terms)
    formed : AreTerms terms
    means : terms_judged s terms ≡ Some (members_sound ts)

  tested : (t : Tree) → inner s t ≡ test_text s t → Tested s t → Inside t
  tested t e x = record {
    factor = lone x.trial;
    lexed = λ b. subst (λ z. Lexed b z (factor_tokens (lone x.trial))) (sym e) (x.lexed b);
    formed = x.formed;
    means = x.means;
  }

  not_inside : (t : Tree) → Inside t → Inside (negated t)
  not_inside t x = record {
    factor = not_factor x.factor;
    lexed = λ b. piece_then b true (codes "NOT") (inner s t) (a_keyword keyword.Not)
        (factor_tokens x.factor) refl (keyword_piece keyword.Not) (x.lexed true) refl;
    formed = x.formed;
    means = ap (option_map negated_of) x.means;
  }

  no_ands : Ands no_trees
  no_ands = record {
    factors = no_factors;
    lexed = λ b x r l. subst (λ z. Lexed b z (r ++ [])) (sym (append-nil x))
        (subst (λ z. Lexed b x z) (sym (append-nil r)) l);
    formed = tt;
    means = refl;
  }

  no_ors : Ors no_trees
  no_ors = record {
    terms = no_terms;
    lexed = λ b x r l. subst (λ z. Lexed b z (r ++ [])) (sym (append-nil x))
        (subst (λ z. Lexed b x z) (sym (append-nil r)) l);
    formed = tt;
    means = refl;
  }

  -- one member more, behind a word
  one_more : (b : Bool) (x word y later : List ℕ) (r : List Seen) (token : Seen)
      (q more : List Seen) → Lexed b x r → Lexed true (word ++ (32 ∷ y)) (token ∷ q)
      → ((z : List ℕ) (p : List Seen) → Lexed b z p → Lexed b (z ++ later) (p ++ more))
      → Lexed b (x ++ (32 ∷ (word ++ (32 ∷ (y ++ later))))) (r ++ token ∷ (q ++ more))
  one_more b x word y later r token q more l m next =
      let here : Lexed b (x ++ (32 ∷ (word ++ (32 ∷ y)))) (r ++ token ∷ q) =
      join b true x (word ++ (32 ∷ y)) r (token ∷ q) l m refl in
      subst (λ z. Lexed b z (r ++ token ∷ (q ++ more)))
      (append_assoc x (32 ∷ (word ++ (32 ∷ y))) later
      ∙ ap (λ z. x ++ (32 ∷ z)) (append_assoc word (32 ∷ y) later))
      (subst (λ z. Lexed b ((x ++ (32 ∷ (word ++ (32 ∷ y)))) ++ later) z)
      (append_assoc r (token ∷ q) more)
      (next (x ++ (32 ∷ (word ++ (32 ∷ y)))) (r ++ token ∷ q) here))

  more_ands : (t : Tree) (ts : Trees) → Inside t → Ands ts → Ands (tree_and t ts)
  more_ands t ts x xs = record {
    factors = and_factor x.factor xs.factors;
    lexed = λ b y r l. one_more b y (codes "AND") (inner s t) (listed s false (codes " AND ") ts) r
        (a_keyword keyword.And) (factor_tokens x.factor) (factors_tokens xs.factors) l
        (blank_then true (codes "AND") (inner s t) (a_keyword keyword.And) (factor_tokens x.factor)
        (keyword_piece keyword.And) (x.lexed true) refl) (xs.lexed b);
    formed = (x.formed, xs.formed);
    means = ap (λ o. with_member o (factors_judged s xs.factors)) x.means
        ∙ ap (with_member (Some (sound t))) xs.means;
  }

  -- a member of an Or is a term of one factor
  alone : (f : Factor) (t : Tree) → factor_judged s f ≡ Some (sound t)
      → option_map (grouped all) (with_member (factor_judged s f) (factors_judged s no_factors))
      ≡ Some (sound t)
  alone f t h = ap (λ o. option_map (grouped all) (with_member o (Some no_members))) h

  more_ors : (t : Tree) (ts : Trees) → Inside t → Ors ts → Ors (tree_and t ts)
  more_ors t ts x xs = record {
    terms = or_term x.factor no_factors xs.terms;
    lexed = λ b y r l. one_more b y (codes "OR") (inner s t) (listed s false (codes " OR ") ts) r
        (a_keyword keyword.Or) (factor_tokens x.factor) (terms_tokens xs.terms) l
        (blank_then true (codes "OR") (inner s t) (a_keyword keyword.Or) (factor_tokens x.factor)
        (keyword_piece keyword.Or) (x.lexed true) refl) (xs.lexed b);
    formed = (x.formed, (tt, xs.formed));
    means = ap (λ o. with_member o (terms_judged s xs.terms)) (alone x.factor t x.means)
        ∙ ap (with_member (Some (sound t))) xs.means;
  }

  -- the whole of a filter, with no brackets round it
  pub record Whole (t : Tree) (text : List ℕ) : Type 0 where
    first : Factor
    factors : Factors
    terms : Terms
    lexed : (b : Bool)
        → Lexed b text (factor_tokens first ++ (factors_tokens factors ++ terms_tokens terms))
    formed : IsFactor (in_brackets first factors terms)
    means : factor_judged s (in_brackets first factors terms) ≡ Some (sound t)

  whole_and : (t : Tree) (ts : Trees) → nat_le 2 (length (t ∷ members_of ts)) ≡ true → Inside t
      → Ands ts → Whole (all (tree_and t ts)) (listed s true (codes " AND ") (tree_and t ts))
  whole_and t ts h x xs = record {
    first = x.factor;
    factors = xs.factors;
    terms = no_terms;
    lexed = λ b. subst
        (λ z. Lexed b (inner s t ++ listed s false (codes " AND ") ts)
        (factor_tokens x.factor ++ z)) (sym (append-nil (factors_tokens xs.factors)))
        (xs.lexed b (inner s t) (factor_tokens x.factor) (x.lexed b));
    formed = (x.formed, (xs.formed, tt));
    means = ap (λ o. option_map (grouped any)
        (with_member (option_map (grouped all) (with_member o (factors_judged s xs.factors)))
        (Some no_members))) x.means
        ∙ ap (λ o. option_map (grouped any)
        (with_member (option_map (grouped all) (with_member (Some (sound t)) o))
        (Some no_members))) xs.means
        ∙ ap (λ z. Some (sound z)) (grouped_back all t ts h);
  }

  whole_or : (t : Tree) (ts : Trees) → nat_le 2 (length (t ∷ members_of ts)) ≡ true → Inside t
      → Ors ts → Whole (any (tree_and t ts)) (listed s true (codes " OR ") (tree_and t ts))
  whole_or t ts h x xs = record {
    first = x.factor;
    factors = no_factors;
    terms = xs.terms;
    lexed = λ b. xs.lexed b (inner s t) (factor_tokens x.factor) (x.lexed b);
    formed = (x.formed, (tt, xs.formed));
    means = ap (λ o. option_map (grouped any) (with_member o (terms_judged s xs.terms)))
        (alone x.factor t x.means)
        ∙ ap (λ o. option_map (grouped any) (with_member (Some (sound t)) o)) xs.means
        ∙ ap (λ z. Some (sound z)) (grouped_back any t ts h);
  }

  whole_one : (t : Tree) → Inside t → Whole t (inner s t)
  whole_one t x = record {
    first = x.factor;
    factors = no_factors;
    terms = no_terms;
    lexed = λ b. subst (λ z. Lexed b (inner s t) z)
        (sym (append-nil (factor_tokens x.factor))) (x.lexed b);
    formed = (x.formed, (tt, tt));
    means = ap (λ o. option_map (grouped any) (with_member o (Some no_members)))
        (alone x.factor t x.means);
  }

  -- brackets round it
  bracketed : (t : Tree) (text : List ℕ) → inner s t ≡ codes "(" ++ (text ++ codes ")")
      → Whole t text → Inside t
  bracketed t text e x =
      let f = factor_tokens x.first in
      let fs = factors_tokens x.factors in
      let ts = terms_tokens x.terms in
      let tokens : (f ++ (fs ++ ts)) ++ closing ∷ [] ≡ f ++ (fs ++ (ts ++ closing ∷ [])) =
      append_assoc f (fs ++ ts) (closing ∷ [])
      ∙ ap (λ z. f ++ z) (append_assoc fs ts (closing ∷ [])) in record {
        factor = in_brackets x.first x.factors x.terms;
        lexed = λ b. subst (λ z. Lexed b z (opening ∷ (f ++ (fs ++ (ts ++ closing ∷ []))))) (sym e)
            (subst (λ z. Lexed b (40 ∷ (text ++ codes ")")) (opening ∷ z)) tokens
            (opening_then b (text ++ codes ")") ((f ++ (fs ++ ts)) ++ closing ∷ [])
            (opened false (text ++ codes ")") ((f ++ (fs ++ ts)) ++ closing ∷ [])
            (join false false text (codes ")") (f ++ (fs ++ ts)) (closing ∷ []) (x.lexed false)
            closing_last refl))));
        formed = x.formed;
        means = x.means;
      }

module _ (s : Specification) (below : Below) (typed : IsType s) where
  mutual
    inside : (t : Tree) → Suits s t → Inside s t
    inside include h = tested s include refl (include_tested s)
    inside exclude h = tested s exclude refl (exclude_tested s)
    inside (negated t) h = not_inside s t (inside t h)
    inside (all no_trees) h = absurd (cc)
    inside (all (tree_and t ts)) h =
        let p = and_parts (nat_le 2 (length (t ∷ members_of ts))) (suits s t && all_suit s ts) h in
        let q = and_parts (suits s t) (all_suit s ts) p.1 in
        bracketed s (all (tree_and t ts)) (listed s true (codes " AND ") (tree_and t ts)) refl
        (whole_and s t ts p.0 (inside t q.0) (ands ts q.1))
    inside (any no_trees) h = absurd (cc)
    inside (any (tree_and t ts)) h =
        let p = and_parts (nat_le 2 (length (t ∷ members_of ts))) (suits s t && all_suit s ts) h in
        let q = and_parts (suits s t) (all_suit s ts) p.1 in
        bracketed s (any (tree_and t ts)) (listed s true (codes " OR ") (tree_and t ts)) refl
        (whole_or s t ts p.0 (inside t q.0) (ors ts q.1))
    inside (compare a op l) h =
        tested s (compare a op l) refl (compare_tested s below typed a op l h)
    inside (between a low high) h =
        tested s (between a low high) refl (between_tested s below typed a low high h)
    inside (like a pattern) h =
        tested s (like a pattern) refl (like_tested s below typed a pattern h)
    inside (one_of a ls) h = tested s (one_of a ls) refl (one_of_tested s below typed a ls h)
    inside (is_null a) h = tested s (is_null a) refl (null_tested s below typed a h)
    inside (ids texts) h = tested s (ids texts) refl (ids_tested s texts h)
    inside (bbox a b) h = tested s (bbox a b) refl (bbox_tested s below typed a b h)
    inside (intersects a g) h =
        tested s (intersects a g) refl (intersects_tested s below typed a g h)
    inside (disjoint a g) h = tested s (disjoint a g) refl (disjoint_tested s below typed a g h)
    inside (within a g) h = tested s (within a g) refl (within_tested s below typed a g h)
    inside (during a low high) h =
        tested s (during a low high) refl (during_tested s below typed a low high h)
    inside (before a at) h = tested s (before a at) refl (before_tested s below typed a at h)
    inside (after a at) h = tested s (after a at) refl (after_tested s below typed a at h)
    inside (tequals a at) h = tested s (tequals a at) refl (tequals_tested s below typed a at h)

    ands : (ts : Trees) → all_suit s ts ≡ true → Ands s ts
    ands no_trees h = no_ands s
    ands (tree_and t ts) h = let q = and_parts (suits s t) (all_suit s ts) h in
        more_ands s t ts (inside t q.0) (ands ts q.1)

    ors : (ts : Trees) → all_suit s ts ≡ true → Ors s ts
    ors no_trees h = no_ors s
    ors (tree_and t ts) h = let q = and_parts (suits s t) (all_suit s ts) h in
        more_ors s t ts (inside t q.0) (ors ts q.1)

  whole : (t : Tree) → Suits s t → Whole s t (printed s t)
  whole (all no_trees) h = absurd (cc)
  whole (all (tree_and t ts)) h =
      let p = and_parts (nat_le 2 (length (t ∷ members_of ts))) (suits s t && all_suit s ts) h in
      let q = and_parts (suits s t) (all_suit s ts) p.1 in
      whole_and s t ts p.0 (inside t q.0) (ands ts q.1)
  whole (any no_trees) h = absurd (cc)
  whole (any (tree_and t ts)) h =
      let p = and_parts (nat_le 2 (length (t ∷ members_of ts))) (suits s t && all_suit s ts) h in
      let q = and_parts (suits s t) (all_suit s ts) p.1 in
      whole_or s t ts p.0 (inside t q.0) (ors ts q.1)
  whole include h = whole_one s include (inside include h)
  whole exclude h = whole_one s exclude (inside exclude h)
  whole (negated t) h = whole_one s (negated t) (inside (negated t) h)
  whole (compare a op l) h = whole_one s (compare a op l) (inside (compare a op l) h)
  whole (between a low high) h = whole_one s (between a low high) (inside (between a low high) h)
  whole (like a pattern) h = whole_one s (like a pattern) (inside (like a pattern) h)
  whole (one_of a ls) h = whole_one s (one_of a ls) (inside (one_of a ls) h)
  whole (is_null a) h = whole_one s (is_null a) (inside (is_null a) h)
  whole (ids texts) h = whole_one s (ids texts) (inside (ids texts) h)
  whole (bbox a b) h = whole_one s (bbox a b) (inside (bbox a b) h)
  whole (intersects a g) h = whole_one s (intersects a g) (inside (intersects a g) h)
  whole (disjoint a g) h = whole_one s (disjoint a g) (inside (disjoint a g) h)
  whole (within a g) h = whole_one s (within a g) (inside (within a g) h)
  whole (during a low high) h = whole_one s (during a low high) (inside (during a low high) h)
  whole (before a at) h = whole_one s (before a at) (inside (before a at) h)
  whole (after a at) h = whole_one s (after a at) (inside (after a at) h)
  whole (tequals a at) h = whole_one s (tequals a at) (inside (tequals a at) h)

  no_blank : (ls : List Lexeme) → FirstIs false ls → IsUnspaced (spaced_of ls)
  no_blank [] f = absurd f
  no_blank (l ∷ ls) f = f

  pub spells : (t : Tree) → Suits s t → SpellsFilter s (printed s t) t
  spells t h =
      let w = whole t h in
      let x = w.lexed false in
      let ls = x.lexemes in
      let spelled : AreSpelled ls =
      subst AreSpelled (append-nil ls)
      (x.spelled [] (record { spelled = tt; ends = tt; calm = refl })) in record {
        tokens = spaced_of ls;
        judged = sound t;
        lexed = record {
          spelled = subst (λ z. Spells z (spaced_of ls)) x.written (lexed ls spelled);
          unspaced = no_blank ls x.first;
        };
        parsed = record {
          apart = numbers_apart ls spelled;
          spelled = record {
            first = w.first;
            factors = w.factors;
            terms = w.terms;
            formed = w.formed;
            written = unspaced_tokens ls ∙ x.tokens_are;
            means = w.means;
          };
        };
        sound = refl;
        means = refl;
      }
