-- A test that is read is written there.
use Rattle.std.proofs.Common.{◌≡◌, ℕ, zero, suc, Bool, true, false, ◌==◌, cond, List, [], ◌∷◌, ◌++◌}
use Rattle.std.proofs.Common.{length, take, drop, Option, Some, None, option_map, refl, sym, ◌∙◌}
use Rattle.std.proofs.Common.{ap, subst, append_assoc, inl, inr, take_all, le_refl}
use Rattle.std.proofs.lemmas.List.{drop_all}
use Rattle.gm_base.proofs.Options.{same_some, no_some}
use Rattle.gm_filter.specs.declared.filter.Op.{Op}
use Rattle.gm_ecql.specs.declared.keyword.Keyword.TheVariants as keyword
use Rattle.gm_ecql.specs.declared.token.Symbol.TheVariants as symbol
use Rattle.gm_ecql.specs.declared.test.Relation.{Relation}
use Rattle.gm_ecql.specs.Geometry.{piece_at, group_count, cut_behind, is_geometry_word}
use Rattle.gm_ecql.specs.Grammar.{opening, closing, comma, literal_token, by_commas}
use Rattle.gm_ecql.specs.Grammar.{in_brackets_tokens, op_symbol, relation_word, timing_word}
use Rattle.gm_ecql.specs.Grammar.{not_tokens, system_tokens, question_tokens, test_tokens}
use Rattle.gm_ecql.specs.Grammar.{IsGeometryPiece, IsTest}
use Rattle.gm_ecql.specs.Limits.{depth_behind}
use Rattle.gm_ecql.specs.Reader.{after_keyword, after_symbol, name_at, text_at, number_at}
use Rattle.gm_ecql.specs.Reader.{instant_at, constant_at, separator_at, number_then_comma}
use Rattle.gm_ecql.specs.Reader.{name_then_comma, corners_at, system_behind, system_at, bbox_at}
use Rattle.gm_ecql.specs.Reader.{relation_at, related_at, list_at, op_at, compared_at, not_at}
use Rattle.gm_ecql.specs.Reader.{between_at, like_at, null_at, during_at, timing_at, timed_at}
use Rattle.gm_ecql.specs.Reader.{one_of_at, negatable_at, asked_at, lone_test_at, test_at}
use Rattle.gm_ecql.specs.Test.{Sides, Question, in_box, related, compared, between, like}
use Rattle.gm_ecql.specs.Test.{one_of, null, during, timed, Trial, include, exclude, ids, named}
use Rattle.gm_ecql.specs.Token.{Seen, a_keyword, a_name, a_text, an_instant, a_number, a_symbol}
use Rattle.gm_ecql.proofs.Readers.{keyword_first, symbol_first, name_first, text_first}
use Rattle.gm_ecql.proofs.Readers.{number_first, instant_first}
use Rattle.gm_ecql.proofs.Sound.{chosen}
use Rattle.gm_ecql.proofs.TestFirst.{bound, mapped, chose, constant_first}
use Rattle.gm_ecql.proofs.TestFirst.{separator_token, separator_first, list_first, op_first}
use Rattle.gm_ecql.proofs.TestFirst.{relation_first, timing_first, not_first}

-- what is asked behind a name
pub record AskedThere (ts : List Seen) (q : Question) (rest : List Seen) : Type 0 where
  pub formed : (name : List ℕ) → IsTest (named name q)
  pub written : (name : List ℕ) → a_name name ∷ ts ≡ question_tokens name q ++ rest

pub record TestThere (ts : List Seen) (t : Trial) (rest : List Seen) : Type 0 where
  pub formed : IsTest t
  pub written : ts ≡ test_tokens t ++ rest

compared_there : (ts : List Seen) (o : Op × List Seen) (r : Question × List Seen)
    → op_at ts ≡ Some o
    → compared_at o.0 o.1 ≡ Some r → AskedThere ts r.0 r.1
compared_there ts o r e h =
    let m = mapped (constant_at o.1) (λ w. (compared o.0 w.0, w.1)) r h in
    subst (λ p. AskedThere ts p.0 p.1) m.2 (record {
      formed = λ name. tt;
      written = λ name. ap (λ z. a_name name ∷ z) (op_first ts o e)
          ∙ ap (λ z. a_name name ∷ a_symbol (op_symbol o.0) ∷ z) (constant_first o.1 m.0 m.1);
    })

null_there : (ts behind : List Seen) (r : Question × List Seen) → ts ≡ a_keyword keyword.Is ∷ behind
    → null_at behind ≡ Some r → AskedThere ts r.0 r.1
null_there ts behind r e h =
    let n = not_at behind in
    let m = mapped (after_keyword keyword.Null n.1) (λ rest. (null n.0, rest)) r h in
    let inner : behind ≡ (not_tokens n.0 ++ a_keyword keyword.Null ∷ []) ++ m.0 =
    not_first behind ∙ ap (λ z. not_tokens n.0 ++ z) (keyword_first keyword.Null n.1 m.0 m.1)
    ∙ sym (append_assoc (not_tokens n.0) (a_keyword keyword.Null ∷ []) m.0) in
    subst (λ p. AskedThere ts p.0 p.1) m.2 (record {
      formed = λ name. tt;
      written = λ name. ap (λ z. a_name name ∷ z) e
          ∙ ap (λ z. a_name name ∷ a_keyword keyword.Is ∷ z) inner;
    })

during_there : (ts behind : List Seen) (r : Question × List Seen)
    → ts ≡ a_keyword keyword.During ∷ behind
    → during_at behind ≡ Some r → AskedThere ts r.0 r.1
during_there ts behind r e h =
    let a = bound (instant_at behind) _ r h in
    let b = bound (after_symbol symbol.Slash a.0.1) _ r a.2 in
    let c = bound (instant_at b.0) _ r b.2 in
    let inner : behind ≡ an_instant a.0.0 ∷ a_symbol symbol.Slash ∷ an_instant c.0.0 ∷ c.0.1 =
    instant_first behind a.0.1 a.0.0 a.1
    ∙ ap (λ z. an_instant a.0.0 ∷ z) (symbol_first symbol.Slash a.0.1 b.0 b.1)
    ∙ ap (λ z. an_instant a.0.0 ∷ a_symbol symbol.Slash ∷ z) (instant_first b.0 c.0.1 c.0.0 c.1) in
    subst (λ p. AskedThere ts p.0 p.1) (same_some (during a.0.0 c.0.0, c.0.1) r c.2) (record {
      formed = λ name. tt;
      written = λ name. ap (λ z. a_name name ∷ z) e
          ∙ ap (λ z. a_name name ∷ a_keyword keyword.During ∷ z) inner;
    })

timed_there : (ts : List Seen) (t : _) (r : Question × List Seen) → timing_at ts ≡ Some t
    → timed_at t.0 t.1 ≡ Some r → AskedThere ts r.0 r.1
timed_there ts t r e h =
    let m = mapped (instant_at t.1) (λ x. (timed t.0 x.0, x.1)) r h in
    subst (λ p. AskedThere ts p.0 p.1) m.2 (record {
      formed = λ name. tt;
      written = λ name. ap (λ z. a_name name ∷ z) (timing_first ts t e)
          ∙ ap (λ z. a_name name ∷ a_keyword (timing_word t.0) ∷ z)
          (instant_first t.1 m.0.1 m.0.0 m.1);
    })

-- behind a name, and a NOT that may stand
record NegatableThere (n : Bool) (ts : List Seen) (q : Question) (rest : List Seen) : Type 0 where
  formed : (name : List ℕ) → IsTest (named name q)
  written : (name : List ℕ) → a_name name ∷ (not_tokens n ++ ts) ≡ question_tokens name q ++ rest

behind_not : (name : List ℕ) (n : Bool) (ts inner rest : List Seen) → ts ≡ inner ++ rest
    → a_name name ∷ (not_tokens n ++ ts) ≡ (a_name name ∷ (not_tokens n ++ inner)) ++ rest
behind_not name n ts inner rest h =
    ap (λ z. a_name name ∷ (not_tokens n ++ z)) h
    ∙ ap (λ z. a_name name ∷ z) (sym (append_assoc (not_tokens n) inner rest))

between_there : (n : Bool) (ts behind : List Seen) (r : Question × List Seen)
    → ts ≡ a_keyword keyword.Between ∷ behind
    → between_at n behind ≡ Some r → NegatableThere n ts r.0 r.1
between_there n ts behind r e h =
    let a = bound (constant_at behind) _ r h in
    let b = bound (after_keyword keyword.And a.0.1) _ r a.2 in
    let c = bound (constant_at b.0) _ r b.2 in
    let low = literal_token a.0.0 in
    let high = literal_token c.0.0 in
    let inner : ts ≡ a_keyword keyword.Between ∷ low ∷ a_keyword keyword.And ∷ high ∷ c.0.1 =
    e ∙ ap (λ z. a_keyword keyword.Between ∷ z) (constant_first behind a.0 a.1)
    ∙ ap (λ z. a_keyword keyword.Between ∷ low ∷ z) (keyword_first keyword.And a.0.1 b.0 b.1)
    ∙ ap (λ z. a_keyword keyword.Between ∷ low ∷ a_keyword keyword.And ∷ z)
    (constant_first b.0 c.0 c.1) in
    subst (λ p. NegatableThere n ts p.0 p.1)
    (same_some (between n a.0.0 c.0.0, c.0.1) r c.2) (record {
      formed = λ name. tt;
      written = λ name. behind_not name n ts
          (a_keyword keyword.Between ∷ low ∷ a_keyword keyword.And ∷ high ∷ []) c.0.1 inner;
    })

like_there : (n : Bool) (ts behind : List Seen) (r : Question × List Seen)
    → ts ≡ a_keyword keyword.Like ∷ behind
    → like_at n behind ≡ Some r → NegatableThere n ts r.0 r.1
like_there n ts behind r e h =
    let m = mapped (text_at behind) (λ x. (like n x.0, x.1)) r h in
    subst (λ p. NegatableThere n ts p.0 p.1) m.2 (record {
      formed = λ name. tt;
      written = λ name. behind_not name n ts (a_keyword keyword.Like ∷ a_text m.0.0 ∷ []) m.0.1
          (e ∙ ap (λ z. a_keyword keyword.Like ∷ z) (text_first behind m.0.1 m.0.0 m.1));
    })

-- a list in brackets
in_brackets_there : (k : Seen) (ts behind inside rest : List Seen) → ts ≡ k ∷ behind
    → behind ≡ opening ∷ (inside ++ closing ∷ rest) → ts ≡ (k ∷ in_brackets_tokens inside) ++ rest
in_brackets_there k ts behind inside rest e h =
    e ∙ ap (λ z. k ∷ z) h
    ∙ ap (λ z. k ∷ opening ∷ z) (sym (append_assoc inside (closing ∷ []) rest))

one_of_there : (n : Bool) (ts behind : List Seen) (r : Question × List Seen)
    → ts ≡ a_keyword keyword.In ∷ behind
    → one_of_at n behind ≡ Some r → NegatableThere n ts r.0 r.1
one_of_there n ts behind r e h =
    let m = mapped (list_at constant_at behind) (λ x. (one_of n x.0, x.1)) r h in
    let l = list_first constant_at literal_token constant_first behind m.0 m.1 in
    let inside = by_commas literal_token m.0.0 in
    subst (λ p. NegatableThere n ts p.0 p.1) m.2 (record {
      formed = λ name. l.0;
      written = λ name. behind_not name n ts
          (a_keyword keyword.In ∷ in_brackets_tokens inside) m.0.1
          (in_brackets_there (a_keyword keyword.In) ts behind inside m.0.1 e l.1);
    })

negatable_there : (n : Bool) (ts : List Seen) (r : Question × List Seen)
    → negatable_at n ts ≡ Some r → NegatableThere n ts r.0 r.1
negatable_there n ts r h = elim (chose (after_keyword keyword.Between ts) _ _ _ h) [
  | inl c ↦ between_there n ts c.0 r (keyword_first keyword.Between ts c.0 c.1) c.2
  | inr c ↦ elim (chose (after_keyword keyword.Like ts) _ _ _ c.1) [
    | inl c ↦ like_there n ts c.0 r (keyword_first keyword.Like ts c.0 c.1) c.2
    | inr c ↦
        let b = bound (after_keyword keyword.In ts) (one_of_at n) r c.1 in
        one_of_there n ts b.0 r (keyword_first keyword.In ts b.0 b.1) b.2
  ]
]

asked_there : (ts : List Seen) (r : Question × List Seen) → asked_at ts ≡ Some r
    → AskedThere ts r.0 r.1
asked_there ts r h = elim (chose (op_at ts) _ _ _ h) [
  | inl c ↦ compared_there ts c.0 r c.1 c.2
  | inr c ↦ elim (chose (after_keyword keyword.Is ts) _ _ _ c.1) [
    | inl c ↦ null_there ts c.0 r (keyword_first keyword.Is ts c.0 c.1) c.2
    | inr c ↦ elim (chose (after_keyword keyword.During ts) _ _ _ c.1) [
      | inl c ↦ during_there ts c.0 r (keyword_first keyword.During ts c.0 c.1) c.2
      | inr c ↦ elim (chose (timing_at ts) _ _ _ c.1) [
        | inl c ↦ timed_there ts c.0 r c.1 c.2
        | inr c ↦
            let n = negatable_there (not_at ts).0 (not_at ts).1 r c.1 in
            record {
              formed = n.formed;
              written = λ name. ap (λ z. a_name name ∷ z) (not_first ts) ∙ n.written name;
            }
      ]
    ]
  ]
]

name_comma_first : (ts : List Seen) (r : List ℕ × List Seen) → name_then_comma ts ≡ Some r
    → ts ≡ opening ∷ a_name r.0 ∷ comma ∷ r.1
name_comma_first ts r h =
    let a = bound (after_symbol symbol.Opening ts) _ r h in
    let b = bound (name_at a.0) _ r a.2 in
    let c = bound (after_symbol symbol.Comma b.0.1) _ r b.2 in
    subst (λ p. ts ≡ opening ∷ a_name p.0 ∷ comma ∷ p.1) (same_some (b.0.0, c.0) r c.2)
    (symbol_first symbol.Opening ts a.0 a.1 ∙ ap (λ z. opening ∷ z) (name_first a.0 b.0.1 b.0.0 b.1)
    ∙ ap (λ z. opening ∷ a_name b.0.0 ∷ z) (symbol_first symbol.Comma b.0.1 c.0 c.1))

number_comma_first : (ts : List Seen) (r : List ℕ × List Seen) → number_then_comma ts ≡ Some r
    → ts ≡ a_number r.0 ∷ comma ∷ r.1
number_comma_first ts r h =
    let b = bound (number_at ts) _ r h in
    let c = bound (after_symbol symbol.Comma b.0.1) _ r b.2 in
    subst (λ p. ts ≡ a_number p.0 ∷ comma ∷ p.1) (same_some (b.0.0, c.0) r c.2)
    (number_first ts b.0.1 b.0.0 b.1
    ∙ ap (λ z. a_number b.0.0 ∷ z) (symbol_first symbol.Comma b.0.1 c.0 c.1))

abbrev sides_tokens : Sides → List Seen → List Seen
sides_tokens s rest =
    a_number s.west ∷ comma ∷ a_number s.south ∷ comma ∷ a_number s.east ∷ comma
    ∷ a_number s.north ∷ rest

corners_first : (ts : List Seen) (r : Sides × List Seen) → corners_at ts ≡ Some r
    → ts ≡ sides_tokens r.0 r.1
corners_first ts r h =
    let a = bound (number_then_comma ts) _ r h in
    let b = bound (number_then_comma a.0.1) _ r a.2 in
    let c = bound (number_then_comma b.0.1) _ r b.2 in
    let d = bound (number_at c.0.1) _ r c.2 in
    subst (λ p. ts ≡ sides_tokens p.0 p.1) (same_some _ r d.2)
    (number_comma_first ts a.0 a.1
    ∙ ap (λ z. a_number a.0.0 ∷ comma ∷ z) (number_comma_first a.0.1 b.0 b.1)
    ∙ ap (λ z. a_number a.0.0 ∷ comma ∷ a_number b.0.0 ∷ comma ∷ z)
    (number_comma_first b.0.1 c.0 c.1)
    ∙ ap (λ z. a_number a.0.0 ∷ comma ∷ a_number b.0.0 ∷ comma ∷ a_number c.0.0 ∷ comma ∷ z)
    (number_first c.0.1 d.0.1 d.0.0 d.1))

system_first : (ts : List Seen) (r : Option (List ℕ) × List Seen) → system_at ts ≡ Some r
    → ts ≡ system_tokens r.0 ++ closing ∷ r.1
system_first ts r h =
    let s = bound (separator_at ts) (λ more. system_behind more.0 more.1) r h in
    by_more s.0.0 s.0.1 (separator_first ts s.0 s.1) s.2
  where
    by_more : (more : Bool) (behind : List Seen) → ts ≡ separator_token more ∷ behind
        → system_behind more behind ≡ Some r
        → ts ≡ system_tokens r.0 ++ closing ∷ r.1
    by_more false behind e g =
        subst (λ p. ts ≡ system_tokens p.0 ++ closing ∷ p.1) (same_some (None, behind) r g) e
    by_more true behind e g =
        let a = bound (text_at behind) _ r g in
        let b = bound (after_symbol symbol.Closing a.0.1) _ r a.2 in
        subst (λ p. ts ≡ system_tokens p.0 ++ closing ∷ p.1) (same_some (Some a.0.0, b.0) r b.2)
        (e ∙ ap (λ z. comma ∷ z) (text_first behind a.0.1 a.0.0 a.1)
        ∙ ap (λ z. comma ∷ a_text a.0.0 ∷ z) (symbol_first symbol.Closing a.0.1 b.0 b.1))

box_there : (ts behind : List Seen) (r : Trial × List Seen) → ts ≡ a_keyword keyword.Bbox ∷ behind
    → bbox_at behind ≡ Some r → TestThere ts r.0 r.1
box_there ts behind r e h =
    let a = bound (name_then_comma behind) _ r h in
    let b = bound (corners_at a.0.1) _ r a.2 in
    let c = bound (system_at b.0.1) _ r b.2 in
    let inside : List Seen → List Seen =
    λ z. opening ∷ a_name a.0.0 ∷ comma ∷ sides_tokens b.0.0 z in
    subst (λ p. TestThere ts p.0 p.1)
    (same_some (named a.0.0 (in_box b.0.0 c.0.0), c.0.1) r c.2) (record {
      formed = tt;
      written = e ∙ ap (λ z. a_keyword keyword.Bbox ∷ z) (name_comma_first behind a.0 a.1)
          ∙ ap (λ z. a_keyword keyword.Bbox ∷ opening ∷ a_name a.0.0 ∷ comma ∷ z)
          (corners_first a.0.1 b.0 b.1)
          ∙ ap (λ z. a_keyword keyword.Bbox ∷ inside z) (system_first b.0.1 c.0 c.1)
          ∙ ap (λ z. a_keyword keyword.Bbox ∷ inside z)
          (sym (append_assoc (system_tokens c.0.0) (closing ∷ []) c.0.1));
    })

-- the tokens of a geometry
group_cut : (depth n : ℕ) (ts : List Seen) → group_count depth ts ≡ Some n
    → (group_count depth (take n ts) ≡ Some n) × (length (take n ts) ≡ n)
group_cut depth n [] h = no_some n h
group_cut depth n (t ∷ ts) h = elim (chosen (depth_behind depth t == 0) _ _ _ h) [
  | inl p ↦ subst
      (λ k. (group_count depth (take k (t ∷ ts)) ≡ Some k) × (length (take k (t ∷ ts)) ≡ k))
      (same_some 1 n p.1)
      (ap (λ x. cond x (Some 1) (option_map suc (group_count (depth_behind depth t) []))) p.0, refl)
  | inr p ↦
      let m = mapped (group_count (depth_behind depth t) ts) suc n p.1 in
      let r = group_cut (depth_behind depth t) m.0 ts m.1 in
      subst (λ k. (group_count depth (take k (t ∷ ts)) ≡ Some k) × (length (take k (t ∷ ts)) ≡ k))
      m.2 (
        ap (λ x. cond x (Some 1)
            (option_map suc (group_count (depth_behind depth t) (take m.0 ts)))) p.0
            ∙ ap (option_map suc) r.0,
        ap suc r.1,
      )
]

cut_join : (n : ℕ) (ts : List Seen) → ts ≡ take n ts ++ drop n ts
cut_join zero ts = refl
cut_join (suc n) [] = refl
cut_join (suc n) (t ∷ ts) = ap (λ z. t ∷ z) (cut_join n ts)

pub piece_there : (ts : List Seen) (r : List Seen × List Seen) → piece_at ts ≡ Some r
    → IsGeometryPiece r.0 × (ts ≡ r.0 ++ r.1)
piece_there [] r h = no_some r h
piece_there (t ∷ ts) r h = elim (chosen (is_geometry_word t) _ _ _ h) [
  | inl p ↦ by_count (group_count 0 ts) refl p.0 p.1
  | inr p ↦ no_some r p.1
]
  where
    by_count : (o : Option ℕ) → group_count 0 ts ≡ o → is_geometry_word t ≡ true
        → cut_behind o t ts ≡ Some r
        → IsGeometryPiece r.0 × (t ∷ ts ≡ r.0 ++ r.1)
    by_count None e w g = no_some r g
    by_count (Some n) e w g =
        let c = group_cut 0 n ts e in
        let front = take n ts in
        let whole : ◌≡◌ {A = List Seen × List Seen} (t ∷ take n front, drop n front)
        (t ∷ front, []) =
        ap (λ k. (t ∷ take k front, drop k front)) (sym c.1)
        ∙ ap (λ z. (t ∷ z, drop (length front) front))
        (take_all (length front) front (le_refl (length front)))
        ∙ ap (λ z. (t ∷ front, z)) (drop_all (length front) front (le_refl (length front))) in
        subst (λ p. IsGeometryPiece p.0 × (t ∷ ts ≡ p.0 ++ p.1))
        (same_some (t ∷ front, drop n ts) r g) (
          ap (λ x. cond x (cut_behind (group_count 0 front) t front) None) w
              ∙ ap (λ o. cut_behind o t front) c.0 ∙ ap (λ z. Some z) whole,
          ap (λ z. t ∷ z) (cut_join n ts),
        )

related_there : (k : Relation) (ts behind : List Seen) (r : Trial × List Seen)
    → ts ≡ a_keyword (relation_word k) ∷ behind
    → related_at k behind ≡ Some r → TestThere ts r.0 r.1
related_there k ts behind r e h =
    let a = bound (name_then_comma behind) _ r h in
    let b = bound (piece_at a.0.1) _ r a.2 in
    let c = bound (after_symbol symbol.Closing b.0.1) _ r b.2 in
    let p = piece_there a.0.1 b.0 b.1 in
    let inside : List Seen → List Seen =
    λ z. a_keyword (relation_word k) ∷ opening ∷ a_name a.0.0 ∷ comma ∷ z in
    subst (λ p. TestThere ts p.0 p.1)
    (same_some (named a.0.0 (related k b.0.0), c.0) r c.2) (record {
      formed = p.0;
      written = e ∙ ap (λ z. a_keyword (relation_word k) ∷ z) (name_comma_first behind a.0 a.1)
          ∙ ap inside p.1
          ∙ ap (λ z. inside (b.0.0 ++ z)) (symbol_first symbol.Closing b.0.1 c.0 c.1)
          ∙ ap inside (sym (append_assoc b.0.0 (closing ∷ []) c.0));
    })

lone_there : (ts : List Seen) (r : Trial × List Seen) → lone_test_at ts ≡ Some r
    → TestThere ts r.0 r.1
lone_there ts r h = elim (chose (after_keyword keyword.Include ts) _ _ _ h) [
  | inl c ↦ subst (λ p. TestThere ts p.0 p.1) (same_some (include, c.0) r c.2)
      (record { formed = tt; written = keyword_first keyword.Include ts c.0 c.1 })
  | inr c ↦ elim (chose (after_keyword keyword.Exclude ts) _ _ _ c.1) [
    | inl c ↦ subst (λ p. TestThere ts p.0 p.1) (same_some (exclude, c.0) r c.2)
        (record { formed = tt; written = keyword_first keyword.Exclude ts c.0 c.1 })
    | inr c ↦ elim (chose (after_keyword keyword.Bbox ts) _ _ _ c.1) [
      | inl c ↦ box_there ts c.0 r (keyword_first keyword.Bbox ts c.0 c.1) c.2
      | inr c ↦
          let b = bound (relation_at ts) (λ r. related_at r.0 r.1) r c.1 in
          related_there b.0.0 ts b.0.1 r (relation_first ts b.0 b.1) b.2
    ]
  ]
]

pub test_there : (ts : List Seen) (r : Trial × List Seen) → test_at ts ≡ Some r
    → TestThere ts r.0 r.1
unfolding test_at
test_there ts r h = elim (chose (name_at ts) _ _ _ h) [
  | inl c ↦
      let m = mapped (asked_at c.0.1) (λ x. (named c.0.0 x.0, x.1)) r c.2 in
      let a = asked_there c.0.1 m.0 m.1 in
      subst (λ p. TestThere ts p.0 p.1) m.2
      (record {
        formed = a.formed c.0.0;
        written = name_first ts c.0.1 c.0.0 c.1 ∙ a.written c.0.0;
      })
  | inr c ↦ elim (chose (after_keyword keyword.In ts) _ _ _ c.1) [
    | inl c ↦
        let m = mapped (list_at text_at c.0) (λ x. (ids x.0, x.1)) r c.2 in
        let l = list_first text_at a_text (λ ts x e. text_first ts x.1 x.0 e) c.0 m.0 m.1 in
        subst (λ p. TestThere ts p.0 p.1) m.2 (record {
          formed = l.0;
          written = in_brackets_there (a_keyword keyword.In) ts c.0 (by_commas a_text m.0.0) m.0.1
              (keyword_first keyword.In ts c.0 c.1) l.1;
        })
    | inr c ↦ lone_there ts r c.1
  ]
]
