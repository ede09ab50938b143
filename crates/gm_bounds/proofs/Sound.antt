-- What a filter is true of is found in its bounds, whatever these are made of.
use Rattle.std.proofs.Common.{◌≡◌, ℕ, Bool, true, false, List, [], ◌∷◌, refl, sym, true≢false, inl}
use Rattle.std.proofs.Common.{inr, ◌⊎◌, Option, Some, cond, eqb}
use Rattle.std.proofs.lemmas.Bool.{and_parts, or_cases, or_left, or_right, eqb-true}
use Rattle.std.proofs.lemmas.List.Folds.{list_any-append}
use Rattle.std.specs.Prelude.{fold, option_to_list, nat_le, length}
use Rattle.std.specs.List.{list_any}
use Rattle.gm_types.specs.Specification.{Specification}
use Rattle.gm_feature.specs.declared.feature.Feature.{Feature}
use Rattle.gm_filter.specs.Suitability.{Suits, suits, all_suit}
use Rattle.gm_filter.specs.Tree.{Tree, Trees, include, exclude, negated, all, any, compare, between}
use Rattle.gm_filter.specs.Tree.{like, one_of, is_null, ids, bbox, intersects, disjoint, within}
use Rattle.gm_filter.specs.Tree.{during, before, after, tequals, no_trees, tree_and}
use Rattle.gm_filter.specs.Truth.{is_true, are_all_true, is_any_true}
use Rattle.gm_bounds.specs.declared.bound.Bound.{Bound}
use Rattle.gm_bounds.specs.declared.bound.Bound.TheVariants.{World, Listed}
use Rattle.gm_bounds.specs.Bound.{Rules, bound_of, all_of, any_of, on}
use Rattle.gm_bounds.specs.Found.{IsFound}
use Rattle.gm_bounds.specs.Lists.{kept, widened, hull_of, capped, pairs_of, pairs, meeting, both}
use Rattle.gm_bounds.specs.Lists.{either, counted, single, listed}

-- ---- lists

kept_keeps : {X : Type 0} (is_void test : X → Bool) (xs : List X)
    → ((x : X) → test x ≡ true → is_void x ≡ false) → list_any test xs ≡ true
    → list_any test (kept is_void xs) ≡ true
kept_keeps is_void test [] full h = h
kept_keeps is_void test (x ∷ xs) full h =
    elim (or_cases (test x) (list_any test xs) h) [
      | inl here ↦ let some : is_void x ≡ false = full x here in rw some (or_left _ _ here)
      | inr there ↦ kept_or (is_void x)
          (or_right (test x) _ (kept_keeps is_void test xs full there))
          (kept_keeps is_void test xs full there)
    ]
  where
    kept_or : (b : Bool) → list_any test (x ∷ kept is_void xs) ≡ true
        → list_any test (kept is_void xs) ≡ true
        → list_any test (cond b (kept is_void xs) (x ∷ kept is_void xs)) ≡ true
    kept_or true more less = less
    kept_or false more less = more

-- what holds two places finds what is found in either
pub record Widens {X : Type 0} (test : X → Bool) (joined : X → X → X) : Type 0 where
  pub left : (x y : X) → test x ≡ true → test (joined x y) ≡ true
  pub right : (x y : X) → test y ≡ true → test (joined x y) ≡ true

module _ {X : Type 0} (test : X → Bool) (joined : X → X → X) (widens : Widens test joined) where
  abbrev grown : Option X → X → Option X
  grown held x = Some (widened joined held x)

  hull_holds : (held : X) (xs : List X) → test held ≡ true
      → list_any test (option_to_list (fold grown (Some held) xs)) ≡ true
  hull_holds held [] h = or_left (test held) false h
  hull_holds held (x ∷ xs) h = hull_holds (joined held x) xs (widens.left held x h)

  hull_finds : (held : X) (xs : List X) → list_any test xs ≡ true
      → list_any test (option_to_list (fold grown (Some held) xs)) ≡ true
  hull_finds held [] h = absurd (true≢false (sym h))
  hull_finds held (x ∷ xs) h = elim (or_cases (test x) (list_any test xs) h) [
    | inl here ↦ hull_holds (joined held x) xs (widens.right held x here)
    | inr there ↦ hull_finds (joined held x) xs there
  ]

  hull_found : (xs : List X) → list_any test xs ≡ true
      → list_any test (option_to_list (hull_of joined xs)) ≡ true
  hull_found [] h = absurd (true≢false (sym h))
  hull_found (x ∷ xs) h = elim (or_cases (test x) (list_any test xs) h) [
    | inl here ↦ hull_holds x xs here
    | inr there ↦ hull_finds x xs there
  ]

  capped_where : (few : Bool) (xs : List X) → list_any test xs ≡ true
      → list_any test (cond few xs (option_to_list (hull_of joined xs))) ≡ true
  capped_where true xs h = h
  capped_where false xs h = hull_found xs h

  pub capped_finds : (xs : List X) → list_any test xs ≡ true
      → list_any test (capped joined xs) ≡ true
  capped_finds xs h = capped_where (nat_le (length xs) 8) xs h

-- what is found in two places is found in what lies in both
abbrev pub Narrows : {X : Type 0} → (X → Bool) → (X → X → X) → Type 0
Narrows {X} test met = (x y : X) → test x ≡ true → test y ≡ true → test (met x y) ≡ true

-- nothing is found in an empty place
abbrev pub AreFull : {X : Type 0} → (X → Bool) → (X → Bool) → Type 0
AreFull {X} test is_void = (x : X) → test x ≡ true → is_void x ≡ false

module _ {X : Type 0} (test is_void : X → Bool) (met : X → X → X) (narrows : Narrows test met)
    (full : AreFull test is_void) where
  pairs_of_find : (x : X) (ys : List X) → test x ≡ true → list_any test ys ≡ true
      → list_any test (pairs_of met is_void x ys) ≡ true
  pairs_of_find x [] h g = absurd (true≢false (sym g))
  pairs_of_find x (y ∷ ys) h g =
      rw list_any-append
      (elim (or_cases (test y) (list_any test ys) g) [
        | inl here ↦ or_left _ _
            (kept_keeps is_void test (met x y ∷ []) full (or_left _ _ (narrows x y h here)))
        | inr there ↦ or_right _ _ (pairs_of_find x ys h there)
      ])

  pub pairs_find : (xs ys : List X) → list_any test xs ≡ true → list_any test ys ≡ true
      → list_any test (pairs met is_void xs ys) ≡ true
  pairs_find [] ys h g = absurd (true≢false (sym h))
  pairs_find (x ∷ xs) ys h g =
      rw list_any-append
      (elim (or_cases (test x) (list_any test xs) h) [
        | inl here ↦ or_left _ _ (pairs_of_find x ys here g)
        | inr there ↦ or_right _ _ (pairs_find xs ys there g)
      ])

pub meeting_finds : {X : Type 0} (test is_void : X → Bool) (met joined : X → X → X)
    → Widens test joined
    → (in_pairs : Bool) → (in_pairs ≡ true → AreFull test is_void)
    → (in_pairs ≡ true → Narrows test met)
    → (xs ys : List X) → list_any test xs ≡ true → list_any test ys ≡ true
    → list_any test (meeting in_pairs met is_void joined xs ys) ≡ true
meeting_finds test is_void met joined widens true full narrows xs ys h g =
    capped_finds test joined widens _
    (pairs_find test is_void met (narrows refl) (full refl) xs ys h g)
meeting_finds test is_void met joined widens false full narrows xs ys h g = h

pub single_finds : {X : Type 0} (test is_void : X → Bool) (x : X) → is_void x ≡ false
    → test x ≡ true → IsFound test (single is_void x)
single_finds test is_void x some h = rw some (or_left _ _ h)

pub listed_finds : {X : Type 0} (test is_void : X → Bool) (joined : X → X → X) (xs : List X)
    → AreFull test is_void → Widens test joined → list_any test xs ≡ true
    → IsFound test (listed is_void joined xs)
listed_finds test is_void joined xs full widens h =
    capped_finds test joined widens _ (kept_keeps is_void test xs full h)

-- ---- bounds

pub both_finds : {X : Type 0} (test : X → Bool) (lists : List X → List X → List X)
    → ((xs ys : List X) → list_any test xs ≡ true → list_any test ys ≡ true
    → list_any test (lists xs ys) ≡ true)
    → (b c : Bound X) → IsFound test b → IsFound test c → IsFound test (both lists b c)
both_finds test lists keeps World c h g = g
both_finds test lists keeps (Listed xs) World h g = h
both_finds test lists keeps (Listed xs) (Listed ys) h g = keeps xs ys h g

either_left : {X : Type 0} (test : X → Bool) (b c : Bound X) → IsFound test b
    → IsFound test (either b c)
either_left test World c h = tt
either_left test (Listed xs) World h = tt
either_left test (Listed xs) (Listed ys) h = rw list_any-append (or_left _ _ h)

either_right : {X : Type 0} (test : X → Bool) (b c : Bound X) → IsFound test c
    → IsFound test (either b c)
either_right test World c h = tt
either_right test (Listed xs) World h = tt
either_right test (Listed xs) (Listed ys) h = rw list_any-append (or_right (list_any test xs) _ h)

counted_finds : {X : Type 0} (test : X → Bool) (lists : List X → List X)
    → ((xs : List X) → list_any test xs ≡ true → list_any test (lists xs) ≡ true)
    → (b : Bound X) → IsFound test b → IsFound test (counted lists b)
counted_finds test lists keeps World h = tt
counted_finds test lists keeps (Listed xs) h = keeps xs h

on_where : {X : Type 0} (test : X → Bool) (c : Bool) (b : Bound X) → (c ≡ true → IsFound test b)
    → IsFound test (cond c b World)
on_where test true b found = found refl
on_where test false b found = tt

pub on_finds : {X : Type 0} (test : X → Bool) (a d : ℕ) (b : Bound X) → (a ≡ d → IsFound test b)
    → IsFound test (on a d b)
on_finds test a d b found = on_where test (eqb a d) b (λ e. found (eqb-true a d e))

-- ---- the induction

-- Each rule finds what it should.
pub record IsSoundFor {X : Type 0} (s : Specification) (f : Feature) (test : X → Bool)
    (r : Rules X) : Type 0 where
  pub tests : (t : Tree) → Suits s t → is_true f t ≡ true → IsFound test (r.test t)
  pub meets : (xs ys : List X) → list_any test xs ≡ true → list_any test ys ≡ true
      → list_any test (r.met xs ys) ≡ true
  pub counts : (xs : List X) → list_any test xs ≡ true → list_any test (r.counted xs) ≡ true

module _ {X : Type 0} (s : Specification) (f : Feature) (test : X → Bool) (r : Rules X)
    (sound : IsSoundFor s f test r) where
  mutual
    pub found : (t : Tree) → Suits s t → is_true f t ≡ true → IsFound test (bound_of r t)
    found include h e = tt
    found exclude h e = absurd (true≢false (sym e))
    found (negated t) h e = tt
    found (all ts) h e = found_all ts World tt (and_parts _ (all_suit s ts) h).1 e
    found (any ts) h e =
        counted_finds test r.counted sound.counts _
        (found_any ts (Listed []) (and_parts _ (all_suit s ts) h).1 (inr e))
    found (compare a op l) h e = sound.tests (compare a op l) h e
    found (between a low high) h e = sound.tests (between a low high) h e
    found (like a pattern) h e = sound.tests (like a pattern) h e
    found (one_of a literals) h e = sound.tests (one_of a literals) h e
    found (is_null a) h e = sound.tests (is_null a) h e
    found (ids texts) h e = sound.tests (ids texts) h e
    found (bbox a b) h e = sound.tests (bbox a b) h e
    found (intersects a g) h e = sound.tests (intersects a g) h e
    found (disjoint a g) h e = sound.tests (disjoint a g) h e
    found (within a g) h e = sound.tests (within a g) h e
    found (during a low high) h e = sound.tests (during a low high) h e
    found (before a at) h e = sound.tests (before a at) h e
    found (after a at) h e = sound.tests (after a at) h e
    found (tequals a at) h e = sound.tests (tequals a at) h e

    found_all : (ts : Trees) (b : Bound X) → IsFound test b → all_suit s ts ≡ true
        → are_all_true f ts ≡ true → IsFound test (all_of r b ts)
    found_all no_trees b so_far h e = so_far
    found_all (tree_and t ts) b so_far h e =
        let suit = and_parts (suits s t) _ h in
        let true_of = and_parts (is_true f t) _ e in
        found_all ts _ (both_finds test r.met sound.meets b _ so_far (found t suit.0 true_of.0))
        suit.1 true_of.1

    found_any : (ts : Trees) (b : Bound X) → all_suit s ts ≡ true
        → IsFound test b ⊎ (is_any_true f ts ≡ true) → IsFound test (any_of r b ts)
    found_any no_trees b h (inl so_far) = so_far
    found_any no_trees b h (inr e) = absurd (true≢false (sym e))
    found_any (tree_and t ts) b h (inl so_far) =
        found_any ts _ (and_parts (suits s t) _ h).1 (inl (either_left test b _ so_far))
    found_any (tree_and t ts) b h (inr e) =
        let suit = and_parts (suits s t) _ h in
        elim (or_cases (is_true f t) (is_any_true f ts) e) [
          | inl here ↦ found_any ts _ suit.1 (inl (either_right test b _ (found t suit.0 here)))
          | inr there ↦ found_any ts _ suit.1 (inr there)
        ]
