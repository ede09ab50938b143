-- Lists: an element by its place.
use Rattle.std.proofs.Common.{◌≡◌, ◌<◌, ◌≤◌, ◌+◌, ℕ, zero, suc, Bool, true, false, ◌||◌, cond, ltb}
use Rattle.std.proofs.Common.{List, [], ◌∷◌, length, Option, Some, None, refl, sym, ◌∙◌, ap, arith}
use Rattle.std.proofs.Common.{inl, inr, subst}
use Rattle.std.specs.Prelude.{◌⊎◌, not, position, slice_get, option_map}
use Rattle.std.specs.List.{list_all, list_any, position_or_len}
use Rattle.std.proofs.lemmas.Bool.{and_parts, or_parts, cases_lt, lt-ltb, le-ltb}
use Rattle.std.proofs.lemmas.List.Quantifiers.{position-Some}
use Rattle.std.proofs.lemmas.Option.{slice_get_cases}
use Rattle.gm_types.proofs.Cuts.{some_none}

-- what holds of each element holds of the one in a place
pub all_at : {X : Type 0} (test : X → Bool) (xs : List X) (i : ℕ) (x : X) → list_all test xs ≡ true
    → slice_get xs i ≡ Some x → test x ≡ true
all_at test [] i x all e = absurd (cc)
all_at test (y ∷ ys) zero x all e = let same : y ≡ x = cc in
    subst (λ z. test z ≡ true) same (and_parts (test y) (list_all test ys) all).0
all_at test (y ∷ ys) (suc i) x all e =
    all_at test ys i x (and_parts (test y) (list_all test ys) all).1 e

-- the place of the first that passes has it
pub record IsFoundAt {X : Type 0} (test : X → Bool) (xs : List X) (i : ℕ) : Type 0 where
  pub item : X
  pub is : slice_get xs i ≡ Some item
  pub passes : test item ≡ true

found_in : {X : Type 0} (test : X → Bool) (xs : List X) (i : ℕ) (d : X) → position test xs ≡ Some i
    → IsFoundAt test xs i
found_in test xs i d e =
    let first = position-Some test xs i d e in
    elim (slice_get_cases xs i).1 [
      | inl h ↦ record {
        item = h.0;
        is = h.2;
        passes = subst (λ z. test z ≡ true) h.3 (position-Some test xs i h.0 e).1;
      }
      | inr h ↦ absurd (omega (arith, first.0, h.0))
    ]

pub found_at : {X : Type 0} (test : X → Bool) (xs : List X) (i : ℕ) → position test xs ≡ Some i
    → IsFoundAt test xs i
found_at test [] i e = absurd (cc)
found_at test (x ∷ xs) i e = found_in test (x ∷ xs) i x e

-- the place of the first that passes, in a longer list
pub position_here : {X : Type 0} (test : X → Bool) (x : X) (xs : List X) → test x ≡ true
    → position test (x ∷ xs) ≡ Some 0
position_here test x xs e =
    ap (λ b. let n = cond (not b) (1 + position_or_len test xs) 0 in
    cond (ltb n (suc (length xs))) (Some n) None) e
    ∙ ap (λ b. cond b (Some 0) None) (lt-ltb 0 (suc (length xs)) (omega arith))

pub position_later : {X : Type 0} (test : X → Bool) (x : X) (xs : List X) → test x ≡ false
    → position test (x ∷ xs) ≡ option_map suc (position test xs)
position_later test x xs e =
    ap (λ b. let n = cond (not b) (1 + position_or_len test xs) 0 in
    cond (ltb n (suc (length xs))) (Some n) None) e
    ∙ go (cases_lt (position_or_len test xs) (length xs))
  where
    go : ((position_or_len test xs < length xs) ⊎ (length xs ≤ position_or_len test xs))
        → cond (ltb (1 + position_or_len test xs) (suc (length xs)))
        (Some (1 + position_or_len test xs)) None ≡ option_map suc (position test xs)
    go (inl h) =
        ap (λ b. cond b (Some (1 + position_or_len test xs)) None)
        (lt-ltb (1 + position_or_len test xs) (suc (length xs)) (omega (arith, h)))
        ∙ ap Some (let e2 : 1 + position_or_len test xs ≡ suc (position_or_len test xs) =
        omega arith in e2)
        ∙ ap (λ b. option_map suc (cond b (Some (position_or_len test xs)) None))
        (sym (lt-ltb (position_or_len test xs) (length xs) h))
    go (inr h) =
        ap (λ b. cond b (Some (1 + position_or_len test xs)) None)
        (le-ltb (1 + position_or_len test xs) (suc (length xs)) (omega (arith, h)))
        ∙ ap (λ b. option_map suc (cond b (Some (position_or_len test xs)) None))
        (sym (le-ltb (position_or_len test xs) (length xs) h))

no_place : (o : Option ℕ) → option_map suc o ≡ None → o ≡ None
no_place None h = refl
no_place (Some n) h = absurd (some_none (suc n) h)

pub none_found : {X : Type 0} (test : X → Bool) (xs : List X) → position test xs ≡ None
    → list_any test xs ≡ false
none_found test [] e = refl
none_found test (x ∷ xs) e = go (test x) refl (none_found test xs)
  where
    go : (b : Bool) → test x ≡ b → (position test xs ≡ None → list_any test xs ≡ false)
        → (test x || list_any test xs) ≡ false
    go true t rest = absurd (some_none 0 (sym (position_here test x xs t) ∙ e))
    go false t rest =
        ap (λ b. b || list_any test xs) t
        ∙ rest (no_place (position test xs) (sym (position_later test x xs t) ∙ e))

pub none_passes : {X : Type 0} (test : X → Bool) (xs : List X) → list_any test xs ≡ false
    → position test xs ≡ None
none_passes test [] e = refl
none_passes test (x ∷ xs) e =
    let parts = or_parts (test x) (list_any test xs) e in
    position_later test x xs parts.0 ∙ ap (option_map suc) (none_passes test xs parts.1)
