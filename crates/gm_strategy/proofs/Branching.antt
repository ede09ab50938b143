-- What the branches of a filter say of it.
use Rattle.std.proofs.Common.{◌≡◌, ◌≤◌, true, ◌||◌, [], ◌∷◌, length, refl, sym, ◌∙◌}
use Rattle.std.proofs.Common.{arith, length-append}
use Rattle.std.proofs.lemmas.Bool.{and_parts, and_from}
use Rattle.std.proofs.lemmas.List.Folds.{list_any-append, list_all-append}
use Rattle.std.specs.List.{list_all, list_any}
use Rattle.std.specs.Prelude.{nat_le}
use Rattle.gm_base.proofs.Booleans.{or_false}
use Rattle.gm_types.specs.Specification.{Specification}
use Rattle.gm_feature.specs.declared.feature.Feature.{Feature}
use Rattle.gm_filter.specs.Suitability.{Suits, suits, all_suit}
use Rattle.gm_filter.specs.Tree.{Tree, Trees, include, exclude, negated, all, any, compare, between}
use Rattle.gm_filter.specs.Tree.{like, one_of, is_null, ids, bbox, intersects, disjoint, within}
use Rattle.gm_filter.specs.Tree.{during, before, after, tequals, no_trees, tree_and, members_of}
use Rattle.gm_filter.specs.Truth.{is_true}
use Rattle.gm_strategy.specs.Branches.{branches_of, branches_in}

-- ---- truth

module _ (f : Feature)
    (either : (ts : Trees) → is_true f (any ts) ≡ list_any (is_true f) (members_of ts)) where
  mutual
    pub branches_decide : (t : Tree) → is_true f t ≡ list_any (is_true f) (branches_of t)
    branches_decide (any ts) = either ts ∙ members_decide ts
    branches_decide include = or_false _
    branches_decide exclude = or_false _
    branches_decide (negated t) = or_false _
    branches_decide (all ts) = or_false _
    branches_decide (compare a op l) = or_false _
    branches_decide (between a low high) = or_false _
    branches_decide (like a pattern) = or_false _
    branches_decide (one_of a literals) = or_false _
    branches_decide (is_null a) = or_false _
    branches_decide (ids texts) = or_false _
    branches_decide (bbox a b) = or_false _
    branches_decide (intersects a g) = or_false _
    branches_decide (disjoint a g) = or_false _
    branches_decide (within a g) = or_false _
    branches_decide (during a low high) = or_false _
    branches_decide (before a at) = or_false _
    branches_decide (after a at) = or_false _
    branches_decide (tequals a at) = or_false _

    members_decide : (ts : Trees)
        → list_any (is_true f) (members_of ts) ≡ list_any (is_true f) (branches_in ts)
    members_decide no_trees = refl
    members_decide (tree_and t ts) =
        (λ i. branches_decide t i || members_decide ts i)
        ∙ sym (list_any-append (is_true f) (branches_of t) (branches_in ts))

-- ---- each suits, and there is one

module _ (s : Specification) where
  only : (t : Tree) → Suits s t → list_all (suits s) (t ∷ []) ≡ true
  only t h = and_from (suits s t) true h refl

  mutual
    pub branches_suit : (t : Tree) → Suits s t → list_all (suits s) (branches_of t) ≡ true
    branches_suit (any ts) h =
        members_suit ts (and_parts (nat_le 2 (length (members_of ts))) (all_suit s ts) h).1
    branches_suit include h = only include h
    branches_suit exclude h = only exclude h
    branches_suit (negated t) h = only (negated t) h
    branches_suit (all ts) h = only (all ts) h
    branches_suit (compare a op l) h = only (compare a op l) h
    branches_suit (between a low high) h = only (between a low high) h
    branches_suit (like a pattern) h = only (like a pattern) h
    branches_suit (one_of a literals) h = only (one_of a literals) h
    branches_suit (is_null a) h = only (is_null a) h
    branches_suit (ids texts) h = only (ids texts) h
    branches_suit (bbox a b) h = only (bbox a b) h
    branches_suit (intersects a g) h = only (intersects a g) h
    branches_suit (disjoint a g) h = only (disjoint a g) h
    branches_suit (within a g) h = only (within a g) h
    branches_suit (during a low high) h = only (during a low high) h
    branches_suit (before a at) h = only (before a at) h
    branches_suit (after a at) h = only (after a at) h
    branches_suit (tequals a at) h = only (tequals a at) h

    members_suit : (ts : Trees) → all_suit s ts ≡ true → list_all (suits s) (branches_in ts) ≡ true
    members_suit no_trees h = refl
    members_suit (tree_and t ts) h =
        let parts = and_parts (suits s t) (all_suit s ts) h in
        list_all-append (suits s) (branches_of t) (branches_in ts)
        ∙ and_from (list_all (suits s) (branches_of t)) _ (branches_suit t parts.0)
        (members_suit ts parts.1)

  pub some_branch : (t : Tree) → Suits s t → 1 ≤ length (branches_of t)
  some_branch (any no_trees) h = absurd (cc)
  some_branch (any (tree_and t ts)) h =
      let parts = and_parts (suits s t) (all_suit s ts)
      (and_parts (nat_le 2 (length (members_of (tree_and t ts))))
      (all_suit s (tree_and t ts)) h).1 in
      let first = some_branch t parts.0 in
      omega (arith, first, length-append (branches_of t) (branches_in ts))
  some_branch include h = omega arith
  some_branch exclude h = omega arith
  some_branch (negated t) h = omega arith
  some_branch (all ts) h = omega arith
  some_branch (compare a op l) h = omega arith
  some_branch (between a low high) h = omega arith
  some_branch (like a pattern) h = omega arith
  some_branch (one_of a literals) h = omega arith
  some_branch (is_null a) h = omega arith
  some_branch (ids texts) h = omega arith
  some_branch (bbox a b) h = omega arith
  some_branch (intersects a g) h = omega arith
  some_branch (disjoint a g) h = omega arith
  some_branch (within a g) h = omega arith
  some_branch (during a low high) h = omega arith
  some_branch (before a at) h = omega arith
  some_branch (after a at) h = omega arith
  some_branch (tequals a at) h = omega arith
