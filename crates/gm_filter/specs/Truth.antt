-- What it means that a filter is true of a feature. There are two values: what is not true is
-- false.
use Rattle.std.specs.Prelude.{ℕ, Bool, true, false, not, ◌&&◌, ◌||◌, List}
use Rattle.std.specs.List.{list_any}
use Rattle.std.specs.Str.{bytes_eq}
use Rattle.gm_geom.specs.declared.geometry.Geometry.{Geometry}
use Rattle.gm_geom.specs.declared.geometry.Geometry.TheVariants as geo
use Rattle.gm_shapes.specs.Meeting.{do_intersect, box_area}
use Rattle.gm_shapes.specs.Meeting as meeting
use Rattle.gm_feature.specs.declared.value.Value.{Value}
use Rattle.gm_feature.specs.declared.value.Value.TheVariants as value
use Rattle.gm_feature.specs.declared.feature.Feature.{Feature}
use Rattle.gm_feature.specs.Feature.{value_at}
use Rattle.gm_filter.specs.declared.filter.Op.TheVariants.{Eq, Lt, Le, Gt, Ge}
use Rattle.gm_filter.specs.declared.filter.Literal.{Literal}
use Rattle.gm_filter.specs.declared.filter.Literal.TheVariants as literal
use Rattle.gm_filter.specs.Comparison.{compares}
use Rattle.gm_filter.specs.Like.{is_like}
use Rattle.gm_filter.specs.Tree.{Tree, Trees, include, exclude, negated, all, any, compare, between}
use Rattle.gm_filter.specs.Tree.{like, one_of, is_null, ids, bbox, intersects, disjoint, within}
use Rattle.gm_filter.specs.Tree.{during, before, after, tequals, no_trees, tree_and}

abbrev pub is_null_value : Value → Bool
is_null_value value.Null = true
is_null_value _ = false

-- from the one to the other, both included
abbrev pub lies_between : Value → Literal → Literal → Bool
lies_between v low high = compares Ge v low && compares Le v high

-- after the one and before the other
abbrev pub lies_during : Value → Literal → Literal → Bool
lies_during v low high = compares Gt v low && compares Lt v high

-- a text that is like the pattern
abbrev pub is_text_like : List ℕ → Value → Bool
is_text_like pattern (value.Text t) = is_like pattern t
is_text_like pattern _ = false

abbrev pub is_one_of : Value → List Literal → Bool
is_one_of v literals = list_any (compares Eq v) literals

-- a geometry that has a point in common with that one
abbrev pub meets : Value → Geometry → Bool
meets (value.Geo g) h = do_intersect g h
meets _ h = false

-- a geometry that has none
abbrev pub is_apart : Value → Geometry → Bool
is_apart (value.Geo g) h = not (do_intersect g h)
is_apart _ h = false

-- a point in a polygon of that geometry and on none of its edges
abbrev pub is_within : Value → Geometry → Bool
is_within (value.Geo (geo.Point p)) h = meeting.is_within p h
is_within _ h = false

abbrev mutual
  pub is_true : Feature → Tree → Bool
  is_true f include = true
  is_true f exclude = false
  is_true f (negated t) = not (is_true f t)
  is_true f (all ts) = are_all_true f ts
  is_true f (any ts) = is_any_true f ts
  is_true f (compare a op l) = compares op (value_at f a) l
  is_true f (between a low high) = lies_between (value_at f a) low high
  is_true f (like a pattern) = is_text_like pattern (value_at f a)
  is_true f (one_of a literals) = is_one_of (value_at f a) literals
  is_true f (is_null a) = is_null_value (value_at f a)
  is_true f (ids texts) = list_any (bytes_eq f.id) texts
  is_true f (bbox a b) = meets (value_at f a) (box_area b)
  is_true f (intersects a g) = meets (value_at f a) g
  is_true f (disjoint a g) = is_apart (value_at f a) g
  is_true f (within a g) = is_within (value_at f a) g
  is_true f (during a low high) = lies_during (value_at f a) (literal.Date low) (literal.Date high)
  is_true f (before a at) = compares Lt (value_at f a) (literal.Date at)
  is_true f (after a at) = compares Gt (value_at f a) (literal.Date at)
  is_true f (tequals a at) = compares Eq (value_at f a) (literal.Date at)

  pub are_all_true : Feature → Trees → Bool
  are_all_true f no_trees = true
  are_all_true f (tree_and t ts) = is_true f t && are_all_true f ts

  pub is_any_true : Feature → Trees → Bool
  is_any_true f no_trees = false
  is_any_true f (tree_and t ts) = is_true f t || is_any_true f ts
