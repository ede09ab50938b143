-- What looking for the boxes of a filter needs: literals that are kept.
use Rattle.std.specs.Prelude.{◌≡◌, None}
use Rattle.gm_geom.specs.Validity.{fault_of}
use Rattle.gm_filter.specs.Tree.{Tree, Trees, include, exclude, negated, all, any, compare, between}
use Rattle.gm_filter.specs.Tree.{like, one_of, is_null, ids, bbox, intersects, disjoint, within}
use Rattle.gm_filter.specs.Tree.{during, before, after, tequals, no_trees, tree_and}

abbrev mutual
  pub HasKept : Tree → Type 0
  HasKept include = Unit {0}
  HasKept exclude = Unit {0}
  HasKept (negated t) = Unit {0}
  HasKept (all ts) = AllHaveKept ts
  HasKept (any ts) = AllHaveKept ts
  HasKept (compare a op l) = Unit {0}
  HasKept (between a low high) = Unit {0}
  HasKept (like a pattern) = Unit {0}
  HasKept (one_of a literals) = Unit {0}
  HasKept (is_null a) = Unit {0}
  HasKept (ids texts) = Unit {0}
  HasKept (bbox a b) = Unit {0}
  HasKept (intersects a g) = fault_of g ≡ None
  HasKept (disjoint a g) = Unit {0}
  HasKept (within a g) = fault_of g ≡ None
  HasKept (during a low high) = Unit {0}
  HasKept (before a at) = Unit {0}
  HasKept (after a at) = Unit {0}
  HasKept (tequals a at) = Unit {0}

  pub AllHaveKept : Trees → Type 0
  AllHaveKept no_trees = Unit {0}
  AllHaveKept (tree_and t ts) = HasKept t × AllHaveKept ts
