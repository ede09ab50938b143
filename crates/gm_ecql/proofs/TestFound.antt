-- A test that is written is read.
use Rattle.std.proofs.Common.{◌≡◌, ℕ, zero, suc, ◌<◌, ◌≤◌, Bool, true, false, ◌==◌, cond, List, []}
use Rattle.std.proofs.Common.{◌∷◌, ◌++◌, length, take, drop, Option, Some, None, option_map, refl}
use Rattle.std.proofs.Common.{◌∙◌, ap, arith, append_assoc, length-append, ◌⊎◌, inl, inr}
use Rattle.std.specs.Prelude.{ℤ}
use Rattle.gm_base.proofs.Options.{same_some}
use Rattle.gm_filter.specs.declared.filter.Op.{Op}
use Rattle.gm_filter.specs.declared.filter.Op.TheVariants as op
use Rattle.gm_ecql.specs.declared.keyword.Keyword.TheVariants as keyword
use Rattle.gm_ecql.specs.declared.token.Symbol.TheVariants as symbol
use Rattle.gm_ecql.specs.declared.test.Relation.{Relation}
use Rattle.gm_ecql.specs.declared.test.Relation.TheVariants as relation
use Rattle.gm_ecql.specs.declared.test.Timing.{Timing}
use Rattle.gm_ecql.specs.declared.test.Timing.TheVariants as timing
use Rattle.gm_ecql.specs.Geometry.{piece_at, group_count, cut_behind, is_geometry_word}
use Rattle.gm_ecql.specs.Grammar.{closing, comma, literal_token, by_commas}
use Rattle.gm_ecql.specs.Grammar.{in_brackets_tokens, op_symbol, timing_word, not_tokens}
use Rattle.gm_ecql.specs.Grammar.{question_tokens, test_tokens, IsGeometryPiece, IsTest}
use Rattle.gm_ecql.specs.Limits.{depth_behind}
use Rattle.gm_ecql.specs.Reader.{Reader, constant_at, text_at, members_at, list_at, asked_at}
use Rattle.gm_ecql.specs.Reader.{test_at, related_at, between_at}
use Rattle.gm_ecql.specs.Test.{Written, of_text, of_number, of_instant, of_truth, Sides, Question}
use Rattle.gm_ecql.specs.Test.{in_box, related, compared, between, like, one_of, null, during}
use Rattle.gm_ecql.specs.Test.{timed, Trial, include, exclude, ids, named}
use Rattle.gm_ecql.specs.Token.{Seen, a_keyword, a_name, a_text, an_instant, a_symbol}
use Rattle.gm_ecql.proofs.Sound.{chosen}

pub constant_found : (w : Written) (rest : List Seen)
    → constant_at (literal_token w ∷ rest) ≡ Some (w, rest)
constant_found (of_text t) rest = refl
constant_found (of_number n) rest = refl
constant_found (of_instant at) rest = refl
constant_found (of_truth true) rest = refl
constant_found (of_truth false) rest = refl

-- the members of a list in brackets
module _ {A : Type 0} (item : Reader A) (token : A → Seen)
    (found : (x : A) (rest : List Seen) → item (token x ∷ rest) ≡ Some (x, rest)) where
  pub members_found : (xs : List A) (n : ℕ) (rest : List Seen) → 0 < length xs → length xs ≤ n
      → members_at item n (by_commas token xs ++ closing ∷ rest) ≡ Some (xs, rest)
  unfolding members_at
  members_found [] n rest some enough = absurd (omega arith)
  members_found (x ∷ xs) zero rest some enough = absurd (omega arith)
  members_found (x ∷ []) (suc n) rest some enough = rw (found x (closing ∷ rest)) refl
  members_found (x ∷ y ∷ ys) (suc n) rest some enough =
      let later = by_commas token (y ∷ ys) ++ closing ∷ rest in
      rw (found x (comma ∷ later))
      (ap (option_map (λ r. (x ∷ r.0, r.1)))
      (members_found (y ∷ ys) n rest (omega arith) (omega arith)))

  commas_long : (xs : List A) → length xs ≤ length (by_commas token xs)
  commas_long [] = omega arith
  commas_long (x ∷ []) = omega arith
  commas_long (x ∷ y ∷ ys) = omega (arith, commas_long (y ∷ ys))

  pub list_found : (xs : List A) (rest : List Seen) → 0 < length xs
      → list_at item (in_brackets_tokens (by_commas token xs) ++ rest) ≡ Some (xs, rest)
  list_found xs rest some =
      let inside = by_commas token xs ++ closing ∷ rest in
      ap (λ z. members_at item (length z) z) (append_assoc (by_commas token xs) (closing ∷ []) rest)
      ∙ members_found xs (length inside) rest some
      (omega (arith, commas_long xs, length-append (by_commas token xs) (closing ∷ rest)))

-- what follows the tokens of a geometry does not count
group_more : (depth n : ℕ) (ts more : List Seen) → group_count depth ts ≡ Some n
    → (group_count depth (ts ++ more) ≡ Some n) × (n ≤ length ts)
group_more depth n [] more h = absurd (cc)
group_more depth n (t ∷ ts) more h = elim (chosen (depth_behind depth t == 0) _ _ _ h) [
  | inl p ↦ (
    ap (λ x. cond x (Some 1)
        (option_map suc (group_count (depth_behind depth t) (ts ++ more)))) p.0
        ∙ p.1,
    at_most (same_some {A = ℕ} 1 n p.1),
  )
  | inr p ↦ by_rest (group_count (depth_behind depth t) ts) refl
      (λ m. group_more (depth_behind depth t) m ts more) p.0 p.1
]
  where
    at_most : 1 ≡ n → n ≤ suc (length ts)
    at_most e = omega (arith, e)

    by_rest : (o : Option ℕ) → group_count (depth_behind depth t) ts ≡ o
        → ((m : ℕ) → group_count (depth_behind depth t) ts ≡ Some m
        → (group_count (depth_behind depth t) (ts ++ more) ≡ Some m) × (m ≤ length ts))
        → (depth_behind depth t == 0) ≡ false → option_map suc o ≡ Some n
        → (group_count depth ((t ∷ ts) ++ more) ≡ Some n) × (n ≤ suc (length ts))
    by_rest None e again f g = absurd (cc)
    by_rest (Some m) e again f g =
        let r = again m e in
        let s : suc m ≡ n = same_some (suc m) n g in (
          ap (λ x. cond x (Some 1)
              (option_map suc (group_count (depth_behind depth t) (ts ++ more)))) f
              ∙ ap (option_map suc) r.0 ∙ ap (λ z. Some z) s,
          omega (arith, r.1, s),
        )

take_ahead : (n : ℕ) (ts more : List Seen) → n ≤ length ts → take n (ts ++ more) ≡ take n ts
take_ahead zero ts more h = refl
take_ahead (suc n) [] more h = absurd (omega arith)
take_ahead (suc n) (t ∷ ts) more h = ap (λ z. t ∷ z) (take_ahead n ts more (omega arith))

drop_ahead : (n : ℕ) (ts more : List Seen) → n ≤ length ts → drop n (ts ++ more) ≡ drop n ts ++ more
drop_ahead zero ts more h = refl
drop_ahead (suc n) [] more h = absurd (omega arith)
drop_ahead (suc n) (t ∷ ts) more h = drop_ahead n ts more (omega arith)

pub piece_more : (ts piece rest more : List Seen) → piece_at ts ≡ Some (piece, rest)
    → piece_at (ts ++ more) ≡ Some (piece, rest ++ more)
piece_more [] piece rest more h = absurd (cc)
piece_more (t ∷ ts) piece rest more h = elim (chosen (is_geometry_word t) _ _ _ h) [
  | inl p ↦ by_count (group_count 0 ts) refl p.0 p.1
  | inr p ↦ absurd (none p.1)
]
  where
    none : ◌≡◌ {A = Option (List Seen × List Seen)} None (Some (piece, rest)) → ⊥
    none e = cc

    by_count : (o : Option ℕ) → group_count 0 ts ≡ o → is_geometry_word t ≡ true
        → cut_behind o t ts ≡ Some (piece, rest)
        → cond (is_geometry_word t) (cut_behind (group_count 0 (ts ++ more)) t (ts ++ more)) None
        ≡ Some (piece, rest ++ more)
    by_count None e w h = absurd (none h)
    by_count (Some n) e w h =
        let g = group_more 0 n ts more e in
        let s : ◌≡◌ {A = List Seen × List Seen} (t ∷ take n ts, drop n ts) (piece, rest) =
        same_some {A = List Seen × List Seen} _ _ h in
        ap (λ x. cond x (cut_behind (group_count 0 (ts ++ more)) t (ts ++ more)) None) w
        ∙ ap (λ o. cut_behind o t (ts ++ more)) g.0
        ∙ ap (λ z. Some (t ∷ z, drop n (ts ++ more))) (take_ahead n ts more g.1)
        ∙ ap (λ z. Some (t ∷ take n ts, z)) (drop_ahead n ts more g.1)
        ∙ ap (λ z. Some (z.0, z.1 ++ more)) s

asked_compared : (o : Op) (w : Written) (rest : List Seen)
    → asked_at (a_symbol (op_symbol o) ∷ literal_token w ∷ rest) ≡ Some (compared o w, rest)
asked_compared op.Eq w rest =
    ap (option_map (λ r. (compared op.Eq r.0, r.1))) (constant_found w rest)
asked_compared op.Ne w rest =
    ap (option_map (λ r. (compared op.Ne r.0, r.1))) (constant_found w rest)
asked_compared op.Lt w rest =
    ap (option_map (λ r. (compared op.Lt r.0, r.1))) (constant_found w rest)
asked_compared op.Le w rest =
    ap (option_map (λ r. (compared op.Le r.0, r.1))) (constant_found w rest)
asked_compared op.Gt w rest =
    ap (option_map (λ r. (compared op.Gt r.0, r.1))) (constant_found w rest)
asked_compared op.Ge w rest =
    ap (option_map (λ r. (compared op.Ge r.0, r.1))) (constant_found w rest)

between_found : (n : Bool) (low high : Written) (rest : List Seen)
    → between_at n (literal_token low ∷ a_keyword keyword.And ∷ literal_token high ∷ rest)
    ≡ Some (between n low high, rest)
between_found n low high rest =
    rw (
      constant_found low (a_keyword keyword.And ∷ literal_token high ∷ rest),
      constant_found high rest,
    ) refl

asked_between : (n : Bool) (low high : Written) (rest : List Seen)
    → asked_at ((not_tokens n
    ++ a_keyword keyword.Between ∷ literal_token low ∷ a_keyword keyword.And ∷ literal_token high
    ∷ []) ++ rest)
    ≡ Some (between n low high, rest)
asked_between true low high rest = between_found true low high rest
asked_between false low high rest = between_found false low high rest

asked_like : (n : Bool) (pattern : List ℕ) (rest : List Seen)
    → asked_at ((not_tokens n ++ a_keyword keyword.Like ∷ a_text pattern ∷ []) ++ rest)
    ≡ Some (like n pattern, rest)
asked_like true pattern rest = refl
asked_like false pattern rest = refl

asked_one_of : (n : Bool) (ws : List Written) (rest : List Seen) → 0 < length ws
    → asked_at ((not_tokens n
    ++ a_keyword keyword.In ∷ in_brackets_tokens (by_commas literal_token ws)) ++ rest)
    ≡ Some (one_of n ws, rest)
asked_one_of true ws rest some =
    ap (option_map (λ r. (one_of true r.0, r.1)))
    (list_found constant_at literal_token constant_found ws rest some)
asked_one_of false ws rest some =
    ap (option_map (λ r. (one_of false r.0, r.1)))
    (list_found constant_at literal_token constant_found ws rest some)

asked_null : (n : Bool) (rest : List Seen)
    → asked_at (a_keyword keyword.Is ∷ ((not_tokens n ++ a_keyword keyword.Null ∷ []) ++ rest))
    ≡ Some (null n, rest)
asked_null true rest = refl
asked_null false rest = refl

asked_during : (low high : ℤ) (rest : List Seen)
    → asked_at (a_keyword keyword.During ∷ an_instant low ∷ a_symbol symbol.Slash ∷ an_instant high
    ∷ rest) ≡ Some (during low high, rest)
asked_during low high rest = refl

asked_timed : (t : Timing) (at : ℤ) (rest : List Seen)
    → asked_at (a_keyword (timing_word t) ∷ an_instant at ∷ rest) ≡ Some (timed t at, rest)
asked_timed timing.Before at rest = refl
asked_timed timing.After at rest = refl
asked_timed timing.Tequals at rest = refl

named_found : (name : List ℕ) (q : Question) (behind rest : List Seen)
    → asked_at behind ≡ Some (q, rest)
    → test_at (a_name name ∷ behind) ≡ Some (named name q, rest)
unfolding test_at
named_found name q behind rest h = ap (option_map (λ r. (named name r.0, r.1))) h

box_found : (name : List ℕ) (sides : Sides) (system : Option (List ℕ)) (rest : List Seen)
    → test_at (question_tokens name (in_box sides system) ++ rest)
    ≡ Some (named name (in_box sides system), rest)
unfolding test_at
box_found name sides None rest = refl
box_found name sides (Some t) rest = refl

piece_closed : (piece rest : List Seen) → IsGeometryPiece piece
    → piece_at ((piece ++ closing ∷ []) ++ rest) ≡ Some (piece, closing ∷ rest)
piece_closed piece rest p =
    piece_more (piece ++ closing ∷ []) piece (closing ∷ []) rest
    (piece_more piece piece [] (closing ∷ []) p)

related_read : (r : Relation) (name : List ℕ) (piece rest : List Seen) → IsGeometryPiece piece
    → related_at r (in_brackets_tokens (a_name name ∷ comma ∷ piece) ++ rest)
    ≡ Some (named name (related r piece), rest)
related_read r name piece rest p = rw (piece_closed piece rest p) refl

related_found : (r : Relation) (name : List ℕ) (piece rest : List Seen) → IsGeometryPiece piece
    → test_at (question_tokens name (related r piece) ++ rest)
    ≡ Some (named name (related r piece), rest)
unfolding test_at
related_found relation.Intersects name piece rest p =
    related_read relation.Intersects name piece rest p
related_found relation.Disjoint name piece rest p = related_read relation.Disjoint name piece rest p
related_found relation.Within name piece rest p = related_read relation.Within name piece rest p

ids_found : (texts : List (List ℕ)) (rest : List Seen) → 0 < length texts
    → test_at (test_tokens (ids texts) ++ rest) ≡ Some (ids texts, rest)
unfolding test_at
ids_found texts rest some =
    ap (option_map (λ r. (ids r.0, r.1)))
    (list_found text_at a_text (λ x later. refl) texts rest some)

lone_found : (t : Trial) (rest : List Seen) → (t ≡ include) ⊎ (t ≡ exclude)
    → test_at (test_tokens t ++ rest) ≡ Some (t, rest)
unfolding test_at
lone_found t rest (inl e) = rw e refl
lone_found t rest (inr e) = rw e refl

-- each test that is written is read, whatever follows it
pub test_found : (t : Trial) (rest : List Seen) → IsTest t
    → test_at (test_tokens t ++ rest) ≡ Some (t, rest)
test_found include rest p = lone_found include rest (inl refl)
test_found exclude rest p = lone_found exclude rest (inr refl)
test_found (ids texts) rest p = ids_found texts rest p
test_found (named name (in_box sides system)) rest p = box_found name sides system rest
test_found (named name (related r piece)) rest p = related_found r name piece rest p
test_found (named name (compared o w)) rest p =
    named_found name (compared o w) (a_symbol (op_symbol o) ∷ literal_token w ∷ rest) rest
    (asked_compared o w rest)
test_found (named name (between n low high)) rest p =
    named_found name (between n low high) _ rest (asked_between n low high rest)
test_found (named name (like n pattern)) rest p =
    named_found name (like n pattern) _ rest (asked_like n pattern rest)
test_found (named name (one_of n ws)) rest p =
    named_found name (one_of n ws) _ rest (asked_one_of n ws rest p)
test_found (named name (null n)) rest p = named_found name (null n) _ rest (asked_null n rest)
test_found (named name (during low high)) rest p =
    named_found name (during low high) _ rest (asked_during low high rest)
test_found (named name (timed t at)) rest p =
    named_found name (timed t at) _ rest (asked_timed t at rest)
