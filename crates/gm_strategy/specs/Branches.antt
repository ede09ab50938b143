-- The branches of a filter: the members of an OR, and in the place of a member that is an OR itself
-- its branches. Any other filter is its own only branch.
use Rattle.std.specs.Prelude.{List, [], ◌∷◌, ◌++◌, map}
use Rattle.std.specs.Borrow.{Bor}
use Rattle.gm_filter.specs.declared.filter.Filter.{Filter}
use Rattle.gm_filter.specs.Tree.{Tree, Trees, include, exclude, negated, all, any, compare, between}
use Rattle.gm_filter.specs.Tree.{like, one_of, is_null, ids, bbox, intersects, disjoint, within}
use Rattle.gm_filter.specs.Tree.{during, before, after, tequals, no_trees, tree_and, tree}

abbrev mutual
  pub branches_of : Tree → List Tree
  branches_of (any ts) = branches_in ts
  branches_of include = include ∷ []
  branches_of exclude = exclude ∷ []
  branches_of (negated t) = negated t ∷ []
  branches_of (all ts) = all ts ∷ []
  branches_of (compare a op l) = compare a op l ∷ []
  branches_of (between a low high) = between a low high ∷ []
  branches_of (like a pattern) = like a pattern ∷ []
  branches_of (one_of a literals) = one_of a literals ∷ []
  branches_of (is_null a) = is_null a ∷ []
  branches_of (ids texts) = ids texts ∷ []
  branches_of (bbox a b) = bbox a b ∷ []
  branches_of (intersects a g) = intersects a g ∷ []
  branches_of (disjoint a g) = disjoint a g ∷ []
  branches_of (within a g) = within a g ∷ []
  branches_of (during a low high) = during a low high ∷ []
  branches_of (before a at) = before a at ∷ []
  branches_of (after a at) = after a at ∷ []
  branches_of (tequals a at) = tequals a at ∷ []

  pub branches_in : Trees → List Tree
  branches_in no_trees = []
  branches_in (tree_and t ts) = branches_of t ++ branches_in ts

-- the trees of filters that are lent
abbrev pub trees_in : List (Bor Filter) → List Tree
trees_in filters = map (λ filter. tree filter.now) filters
