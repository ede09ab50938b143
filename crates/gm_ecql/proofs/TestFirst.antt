-- A test that is read stands first, as it is written.
use Rattle.std.proofs.Common.{◌≡◌, ℕ, zero, suc, ◌<◌, Bool, true, false, List, [], ◌∷◌, ◌++◌}
use Rattle.std.proofs.Common.{length, Option, Some, None, option_map, refl, ◌∙◌, ap, subst, arith}
use Rattle.std.proofs.Common.{◌⊎◌, inl, inr}
use Rattle.gm_base.proofs.Options.{same_some, no_some}
use Rattle.gm_filter.specs.declared.filter.Op.{Op}
use Rattle.gm_filter.specs.declared.filter.Op.TheVariants as op
use Rattle.gm_ecql.specs.declared.keyword.Keyword.{Keyword}
use Rattle.gm_ecql.specs.declared.keyword.Keyword.TheVariants as keyword
use Rattle.gm_ecql.specs.declared.token.Symbol.{Symbol}
use Rattle.gm_ecql.specs.declared.token.Symbol.TheVariants as symbol
use Rattle.gm_ecql.specs.declared.test.Relation.{Relation}
use Rattle.gm_ecql.specs.declared.test.Relation.TheVariants as relation
use Rattle.gm_ecql.specs.declared.test.Timing.{Timing}
use Rattle.gm_ecql.specs.declared.test.Timing.TheVariants as timing
use Rattle.gm_ecql.specs.Grammar.{opening, closing, comma, literal_token, by_commas, op_symbol}
use Rattle.gm_ecql.specs.Grammar.{relation_word, timing_word, not_tokens}
use Rattle.gm_ecql.specs.Reader.{Reader, ◌>>=◌, or_else, after_keyword, after_symbol, symbol_at}
use Rattle.gm_ecql.specs.Reader.{text_at, number_at, instant_at, truth_at, constant_at}
use Rattle.gm_ecql.specs.Reader.{separator_at, member_then, members_at, list_at, op_of, op_at}
use Rattle.gm_ecql.specs.Reader.{not_at, relation_at, timing_at}
use Rattle.gm_ecql.specs.Test.{Written, of_truth}
use Rattle.gm_ecql.specs.Token.{Seen, a_keyword, a_name, a_text, an_instant, a_number, a_symbol}
use Rattle.gm_ecql.proofs.Readers.{keyword_first, symbol_first, text_first}
use Rattle.gm_ecql.proofs.Readers.{number_first, instant_first}

-- what a step gave, where the steps behind it give something
pub bound : {A B : Type 0} (o : Option A) (f : A → Option B) (y : B) → o >>= f ≡ Some y
    → (x : A) × (o ≡ Some x) × (f x ≡ Some y)
bound None f y h = no_some y h
bound (Some x) f y h = (x, refl, h)

pub mapped : {A B : Type 0} (o : Option A) (f : A → B) (y : B) → option_map f o ≡ Some y
    → (x : A) × (o ≡ Some x) × (f x ≡ y)
mapped None f y h = no_some y h
mapped (Some x) f y h = (x, refl, same_some (f x) y h)

pub chose : {A B : Type 0} (o : Option A) (f : A → B) (other z : B) → or_else o f other ≡ z
    → ((x : A) × (o ≡ Some x) × (f x ≡ z)) ⊎ ((o ≡ None) × (other ≡ z))
chose None f other z h = inr (refl, h)
chose (Some x) f other z h = inl (x, refl, h)

truth_first : (ts : List Seen) (r : Bool × List Seen) → truth_at ts ≡ Some r
    → ts ≡ literal_token (of_truth r.0) ∷ r.1
truth_first ts r h = elim (chose (after_keyword keyword.True ts) _ _ _ h) [
  | inl c ↦
      let e : (true, c.0) ≡ r = same_some _ _ c.2 in
      subst (λ p. ts ≡ literal_token (of_truth p.0) ∷ p.1) e (keyword_first keyword.True ts c.0 c.1)
  | inr c ↦
      let m = mapped (after_keyword keyword.False ts) (λ rest. (false, rest)) r c.1 in
      subst (λ p. ts ≡ literal_token (of_truth p.0) ∷ p.1) m.2
      (keyword_first keyword.False ts m.0 m.1)
]

pub constant_first : (ts : List Seen) (r : Written × List Seen) → constant_at ts ≡ Some r
    → ts ≡ literal_token r.0 ∷ r.1
constant_first ts r h = elim (chose (text_at ts) _ _ _ h) [
  | inl c ↦ subst (λ p. ts ≡ literal_token p.0 ∷ p.1) (same_some _ r c.2)
      (text_first ts c.0.1 c.0.0 c.1)
  | inr c ↦ elim (chose (number_at ts) _ _ _ c.1) [
    | inl c ↦ subst (λ p. ts ≡ literal_token p.0 ∷ p.1) (same_some _ r c.2)
        (number_first ts c.0.1 c.0.0 c.1)
    | inr c ↦ elim (chose (instant_at ts) _ _ _ c.1) [
      | inl c ↦ subst (λ p. ts ≡ literal_token p.0 ∷ p.1) (same_some _ r c.2)
          (instant_first ts c.0.1 c.0.0 c.1)
      | inr c ↦
          let m = mapped (truth_at ts) (λ r. (of_truth r.0, r.1)) r c.1 in
          subst (λ p. ts ≡ literal_token p.0 ∷ p.1) m.2 (truth_first ts m.0 m.1)
    ]
  ]
]

-- the comma or the bracket that stands first
abbrev pub separator_token : Bool → Seen
separator_token true = comma
separator_token false = closing

pub separator_first : (ts : List Seen) (r : Bool × List Seen) → separator_at ts ≡ Some r
    → ts ≡ separator_token r.0 ∷ r.1
separator_first ts r h = elim (chose (after_symbol symbol.Comma ts) _ _ _ h) [
  | inl c ↦ subst (λ p. ts ≡ separator_token p.0 ∷ p.1) (same_some _ r c.2)
      (symbol_first symbol.Comma ts c.0 c.1)
  | inr c ↦
      let m = mapped (after_symbol symbol.Closing ts) (λ rest. (false, rest)) r c.1 in
      subst (λ p. ts ≡ separator_token p.0 ∷ p.1) m.2 (symbol_first symbol.Closing ts m.0 m.1)
]

module _ {A : Type 0} (item : Reader A) (token : A → Seen)
    (first : (ts : List Seen) (r : A × List Seen) → item ts ≡ Some r → ts ≡ token r.0 ∷ r.1) where
  -- members up to a closing bracket
  pub record Listed (ts : List Seen) (xs : List A) (rest : List Seen) : Type 0 where
    pub some : 0 < length xs
    pub written : ts ≡ by_commas token xs ++ closing ∷ rest

  pub members_first : (n : ℕ) (ts : List Seen) (r : List A × List Seen)
      → members_at item n ts ≡ Some r → Listed ts r.0 r.1
  unfolding members_at
  members_first zero ts r h = no_some r h
  members_first (suc n) ts r h =
      let m = bound (item ts) _ r h in
      let s = bound (separator_at m.0.1) _ r m.2 in
      by_separator m.0.0 m.0.1 s.0.0 s.0.1 (members_first n s.0.1) (first ts m.0 m.1)
      (separator_first m.0.1 s.0 s.1) s.2
    where
      by_separator : (x : A) (behind : List Seen) (more : Bool) (later : List Seen)
          → ((r : List A × List Seen) → members_at item n later ≡ Some r → Listed later r.0 r.1)
          → ts ≡ token x ∷ behind
          → behind ≡ separator_token more ∷ later
          → member_then (members_at item n) x more later ≡ Some r → Listed ts r.0 r.1
      by_separator x behind false later again e f g =
          subst (λ p. Listed ts p.0 p.1) (same_some (x ∷ [], later) r g)
          (record { some = omega arith; written = e ∙ ap (λ z. token x ∷ z) f })
      by_separator x behind true later again e f g =
          let m = mapped (members_at item n later) (λ r. (x ∷ r.0, r.1)) r g in
          let inner = again m.0 m.1 in
          subst (λ p. Listed ts p.0 p.1) m.2
          (longer x m.0.0 m.0.1 inner (e ∙ ap (λ z. token x ∷ z) f))
        where
          longer : (x : A) (xs rest : _) → Listed later xs rest → ts ≡ token x ∷ comma ∷ later
              → Listed ts (x ∷ xs) rest
          longer x [] rest inner e = absurd (omega (arith, inner.some))
          longer x (y ∷ ys) rest inner e =
              record {
                some = omega arith;
                written = e ∙ ap (λ z. token x ∷ comma ∷ z) inner.written;
              }

  pub list_first : (ts : List Seen) (r : List A × List Seen) → list_at item ts ≡ Some r
      → (0 < length r.0) × (ts ≡ opening ∷ (by_commas token r.0 ++ closing ∷ r.1))
  list_first ts r h =
      let o = bound (after_symbol symbol.Opening ts) _ r h in
      let l = members_first (length o.0) o.0 r o.2 in
      (l.some, symbol_first symbol.Opening ts o.0 o.1 ∙ ap (λ z. opening ∷ z) l.written)

pub symbol_at_first : (ts : List Seen) (r : Symbol × List Seen) → symbol_at ts ≡ Some r
    → ts ≡ a_symbol r.0 ∷ r.1
symbol_at_first [] r h = no_some r h
symbol_at_first (a_keyword j ∷ ts) r h = no_some r h
symbol_at_first (a_name bytes ∷ ts) r h = no_some r h
symbol_at_first (a_text bytes ∷ ts) r h = no_some r h
symbol_at_first (an_instant at ∷ ts) r h = no_some r h
symbol_at_first (a_number bytes ∷ ts) r h = no_some r h
symbol_at_first (a_symbol s ∷ ts) r h = ap (λ p. a_symbol p.0 ∷ p.1) (same_some (s, ts) r h)

op_symbol_of : (s : Symbol) (o : Op) → op_of s ≡ Some o → s ≡ op_symbol o
op_symbol_of symbol.Opening o h = no_some o h
op_symbol_of symbol.Closing o h = no_some o h
op_symbol_of symbol.Comma o h = no_some o h
op_symbol_of symbol.Equal o h = ap op_symbol (same_some op.Eq o h)
op_symbol_of symbol.NotEqual o h = ap op_symbol (same_some op.Ne o h)
op_symbol_of symbol.Less o h = ap op_symbol (same_some op.Lt o h)
op_symbol_of symbol.AtMost o h = ap op_symbol (same_some op.Le o h)
op_symbol_of symbol.More o h = ap op_symbol (same_some op.Gt o h)
op_symbol_of symbol.AtLeast o h = ap op_symbol (same_some op.Ge o h)
op_symbol_of symbol.Slash o h = no_some o h

pub op_first : (ts : List Seen) (r : Op × List Seen) → op_at ts ≡ Some r
    → ts ≡ a_symbol (op_symbol r.0) ∷ r.1
op_first ts r h =
    let s = bound (symbol_at ts) _ r h in
    let m = mapped (op_of s.0.0) (λ o. (o, s.0.1)) r s.2 in
    subst (λ p. ts ≡ a_symbol (op_symbol p.0) ∷ p.1) m.2
    (symbol_at_first ts s.0 s.1 ∙ ap (λ z. a_symbol z ∷ s.0.1) (op_symbol_of s.0.0 m.0 m.1))

pub relation_first : (ts : List Seen) (r : Relation × List Seen) → relation_at ts ≡ Some r
    → ts ≡ a_keyword (relation_word r.0) ∷ r.1
relation_first ts r h = elim (chose (after_keyword keyword.Intersects ts) _ _ _ h) [
  | inl c ↦ subst (λ p. ts ≡ a_keyword (relation_word p.0) ∷ p.1) (same_some _ r c.2)
      (keyword_first keyword.Intersects ts c.0 c.1)
  | inr c ↦ elim (chose (after_keyword keyword.Disjoint ts) _ _ _ c.1) [
    | inl c ↦ subst (λ p. ts ≡ a_keyword (relation_word p.0) ∷ p.1) (same_some _ r c.2)
        (keyword_first keyword.Disjoint ts c.0 c.1)
    | inr c ↦
        let m = mapped (after_keyword keyword.Within ts) (λ rest. (relation.Within, rest)) r c.1 in
        subst (λ p. ts ≡ a_keyword (relation_word p.0) ∷ p.1) m.2
        (keyword_first keyword.Within ts m.0 m.1)
  ]
]

pub timing_first : (ts : List Seen) (r : Timing × List Seen) → timing_at ts ≡ Some r
    → ts ≡ a_keyword (timing_word r.0) ∷ r.1
timing_first ts r h = elim (chose (after_keyword keyword.Before ts) _ _ _ h) [
  | inl c ↦ subst (λ p. ts ≡ a_keyword (timing_word p.0) ∷ p.1) (same_some _ r c.2)
      (keyword_first keyword.Before ts c.0 c.1)
  | inr c ↦ elim (chose (after_keyword keyword.After ts) _ _ _ c.1) [
    | inl c ↦ subst (λ p. ts ≡ a_keyword (timing_word p.0) ∷ p.1) (same_some _ r c.2)
        (keyword_first keyword.After ts c.0 c.1)
    | inr c ↦
        let m = mapped (after_keyword keyword.Tequals ts) (λ rest. (timing.Tequals, rest)) r c.1 in
        subst (λ p. ts ≡ a_keyword (timing_word p.0) ∷ p.1) m.2
        (keyword_first keyword.Tequals ts m.0 m.1)
  ]
]

-- what stands first is a NOT and what follows it, or nothing stands before it
pub not_first : (ts : List Seen) → ts ≡ not_tokens (not_at ts).0 ++ (not_at ts).1
not_first ts = by_word (after_keyword keyword.Not ts) refl
  where
    by_word : (o : Option (List Seen)) → after_keyword keyword.Not ts ≡ o
        → ts ≡ not_tokens (or_else {B = Bool × List Seen} o (λ rest. (true, rest)) (false, ts)).0
        ++ (or_else {B = Bool × List Seen} o (λ rest. (true, rest)) (false, ts)).1
    by_word None e = refl
    by_word (Some rest) e = keyword_first keyword.Not ts rest e
