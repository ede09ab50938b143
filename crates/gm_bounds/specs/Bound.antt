-- Bounds of a filter, by recursion on its tree: the world, or a list of places where to look.
use Rattle.std.specs.Prelude.{ℕ, nat_eq, if◌then◌else◌, List, []}
use Rattle.gm_filter.specs.Tree.{Tree, Trees, include, exclude, negated, all, any, compare, between}
use Rattle.gm_filter.specs.Tree.{like, one_of, is_null, ids, bbox, intersects, disjoint, within}
use Rattle.gm_filter.specs.Tree.{during, before, after, tequals, no_trees, tree_and}
use Rattle.gm_bounds.specs.declared.bound.Bound.{Bound}
use Rattle.gm_bounds.specs.declared.bound.Bound.TheVariants.{World, Listed}
use Rattle.gm_bounds.specs.Lists.{both, either, counted}

-- the bound of a test of attribute a, where attribute b is asked for
abbrev pub on : {X : Type 0} → ℕ → ℕ → Bound X → Bound X
on a b bound = if nat_eq a b then bound else World

-- How bounds of one kind are made: the bound of a test, what AND makes of two lists, and what
-- becomes of the list of an OR.
pub record Rules (X : Type 0) : Type 0 where
  pub test : Tree → Bound X
  pub met : List X → List X → List X
  pub counted : List X → List X

-- AND goes from left to right, two at a time; OR joins all and is counted once; of NOT nothing is
-- known.
abbrev mutual
  pub bound_of : {X : Type 0} → Rules X → Tree → Bound X
  bound_of r include = World
  bound_of r exclude = Listed []
  bound_of r (negated t) = World
  bound_of r (all ts) = all_of r World ts
  bound_of r (any ts) = counted r.counted (any_of r (Listed []) ts)
  bound_of r (compare a op l) = r.test (compare a op l)
  bound_of r (between a low high) = r.test (between a low high)
  bound_of r (like a pattern) = r.test (like a pattern)
  bound_of r (one_of a literals) = r.test (one_of a literals)
  bound_of r (is_null a) = r.test (is_null a)
  bound_of r (ids texts) = r.test (ids texts)
  bound_of r (bbox a b) = r.test (bbox a b)
  bound_of r (intersects a g) = r.test (intersects a g)
  bound_of r (disjoint a g) = r.test (disjoint a g)
  bound_of r (within a g) = r.test (within a g)
  bound_of r (during a low high) = r.test (during a low high)
  bound_of r (before a at) = r.test (before a at)
  bound_of r (after a at) = r.test (after a at)
  bound_of r (tequals a at) = r.test (tequals a at)

  pub all_of : {X : Type 0} → Rules X → Bound X → Trees → Bound X
  all_of r found no_trees = found
  all_of r found (tree_and t ts) = all_of r (both r.met found (bound_of r t)) ts

  pub any_of : {X : Type 0} → Rules X → Bound X → Trees → Bound X
  any_of r found no_trees = found
  any_of r found (tree_and t ts) = any_of r (either found (bound_of r t)) ts
