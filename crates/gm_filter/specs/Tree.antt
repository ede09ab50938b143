-- The tree of a filter.
use Rattle.std.specs.Prelude.{ℕ, ℤ, List, [], ◌∷◌}
use Rattle.gm_geom.specs.declared.point.Box2.{Box2}
use Rattle.gm_geom.specs.declared.geometry.Geometry.{Geometry}
use Rattle.gm_filter.specs.declared.filter.Op.{Op}
use Rattle.gm_filter.specs.declared.filter.Literal.{Literal}
use Rattle.gm_filter.specs.declared.filter.Filter.{Filter}
use Rattle.gm_filter.specs.declared.filter.Filter.TheOpen as open_filter
use Rattle.gm_filter.specs.declared.filter.Filter.TheFolds.{fold-Filter}

-- A filter without where it lies in memory.
mutual
  pub data Tree : Type 0 where
    include : Tree
    exclude : Tree
    negated : Tree → Tree
    all : Trees → Tree
    any : Trees → Tree
    compare : ℕ → Op → Literal → Tree
    between : ℕ → Literal → Literal → Tree
    like : ℕ → List ℕ → Tree
    one_of : ℕ → List Literal → Tree
    is_null : ℕ → Tree
    ids : List (List ℕ) → Tree
    bbox : ℕ → Box2 → Tree
    intersects : ℕ → Geometry → Tree
    disjoint : ℕ → Geometry → Tree
    within : ℕ → Geometry → Tree
    during : ℕ → ℤ → ℤ → Tree
    before : ℕ → ℤ → Tree
    after : ℕ → ℤ → Tree
    tequals : ℕ → ℤ → Tree

  pub data Trees : Type 0 where
    no_trees : Trees
    tree_and : Tree → Trees → Trees

abbrev pub trees_of : List Tree → Trees
trees_of [] = no_trees
trees_of (t ∷ ts) = tree_and t (trees_of ts)

-- the trees as a list
abbrev pub members_of : Trees → List Tree
members_of no_trees = []
members_of (tree_and t ts) = t ∷ members_of ts

-- one layer of a filter, with the trees of its members in their place
abbrev pub layer : open_filter.Filter-F Tree → Tree
layer open_filter.Include = include
layer open_filter.Exclude = exclude
layer (open_filter.Not f) = negated f.value
layer (open_filter.And fs) = all (trees_of fs.items)
layer (open_filter.Or fs) = any (trees_of fs.items)
layer (open_filter.Compare a op l) = compare a op l
layer (open_filter.Between a low high) = between a low high
layer (open_filter.Like a pattern) = like a pattern
layer (open_filter.OneOf a ls) = one_of a ls
layer (open_filter.IsNull a) = is_null a
layer (open_filter.Ids texts) = ids texts
layer (open_filter.Bbox a b) = bbox a b
layer (open_filter.Intersects a g) = intersects a g
layer (open_filter.Disjoint a g) = disjoint a g
layer (open_filter.Within a g) = within a g
layer (open_filter.During a low high) = during a low high
layer (open_filter.Before a at) = before a at
layer (open_filter.After a at) = after a at
layer (open_filter.Tequals a at) = tequals a at

abbrev pub tree : Filter → Tree
tree = fold-Filter Tree layer
