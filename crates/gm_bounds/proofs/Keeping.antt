-- The literals of a filter that suits a type are kept.
use Rattle.std.proofs.Common.{◌≡◌, true, ◌&&◌}
use Rattle.std.proofs.lemmas.Bool.{and_parts}
use Rattle.gm_base.proofs.Options.{none_is}
use Rattle.gm_geom.specs.Validity.{fault_of}
use Rattle.gm_types.specs.Specification.{Specification}
use Rattle.gm_filter.specs.Suitability.{Suits, suits, all_suit, is_kept, has_area}
use Rattle.gm_filter.specs.Tree.{Tree, Trees, include, exclude, negated, all, any, compare, between}
use Rattle.gm_filter.specs.Tree.{like, one_of, is_null, ids, bbox, intersects, disjoint, within}
use Rattle.gm_filter.specs.Tree.{during, before, after, tequals, no_trees, tree_and}
use Rattle.gm_bounds.specs.Kept.{HasKept, AllHaveKept}

mutual
  pub has_kept : (s : Specification) (t : Tree) → Suits s t → HasKept t
  has_kept s include h = tt
  has_kept s exclude h = tt
  has_kept s (negated t) h = tt
  has_kept s (all ts) h = all_have_kept s ts (and_parts _ (all_suit s ts) h).1
  has_kept s (any ts) h = all_have_kept s ts (and_parts _ (all_suit s ts) h).1
  has_kept s (compare a op l) h = tt
  has_kept s (between a low high) h = tt
  has_kept s (like a pattern) h = tt
  has_kept s (one_of a literals) h = tt
  has_kept s (is_null a) h = tt
  has_kept s (ids texts) h = tt
  has_kept s (bbox a b) h = tt
  has_kept s (intersects a g) h = none_is (fault_of g) (and_parts (is_kept g) _ h).0
  has_kept s (disjoint a g) h = tt
  has_kept s (within a g) h =
      none_is (fault_of g) (and_parts (has_area g) _ (and_parts (has_area g && is_kept g) _ h).0).1
  has_kept s (during a low high) h = tt
  has_kept s (before a at) h = tt
  has_kept s (after a at) h = tt
  has_kept s (tequals a at) h = tt

  pub all_have_kept : (s : Specification) (ts : Trees) → all_suit s ts ≡ true → AllHaveKept ts
  all_have_kept s no_trees h = tt
  all_have_kept s (tree_and t ts) h = let parts = and_parts (suits s t) _ h in
      (has_kept s t parts.0, all_have_kept s ts parts.1)
