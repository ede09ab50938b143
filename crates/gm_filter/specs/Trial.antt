-- What trying a filter on a feature needs: values at the places that it names, and geometries that
-- are kept.
use Rattle.std.specs.Prelude.{◌≡◌, ◌≤ℤ◌, ℕ, ◌<◌, length, None}
use Rattle.gm_geom.specs.declared.point.Box2.{Box2}
use Rattle.gm_geom.specs.declared.geometry.Geometry.{Geometry}
use Rattle.gm_geom.specs.Validity.{fault_of}
use Rattle.gm_feature.specs.declared.value.Value.{Value}
use Rattle.gm_feature.specs.declared.value.Value.TheVariants as value
use Rattle.gm_feature.specs.declared.feature.Feature.{Feature}
use Rattle.gm_feature.specs.Feature.{value_at}
use Rattle.gm_feature.specs.declared.stored.Stored.{Stored}
use Rattle.gm_feature.specs.Stored.{IsStored}
use Rattle.gm_filter.specs.Tree.{Tree, Trees, include, exclude, negated, all, any, compare, between}
use Rattle.gm_filter.specs.Tree.{like, one_of, is_null, ids, bbox, intersects, disjoint, within}
use Rattle.gm_filter.specs.Tree.{during, before, after, tequals, no_trees, tree_and}

-- the value is no geometry, or one that is kept
abbrev pub IsKeptValue : Value → Type 0
IsKeptValue (value.Geo g) = fault_of g ≡ None
IsKeptValue _ = Unit {0}

abbrev pub IsRisingBox : Box2 → Type 0
IsRisingBox b = (b.low.x ≤ℤ b.high.x) × (b.low.y ≤ℤ b.high.y)

abbrev pub HasPlace : Feature → ℕ → Type 0
HasPlace f a = a < length f.values

abbrev pub MayMeet : Feature → ℕ → Geometry → Type 0
MayMeet f a g = HasPlace f a × (IsKeptValue (value_at f a) × (fault_of g ≡ None))

abbrev mutual
  pub MayTry : Feature → Tree → Type 0
  MayTry f include = Unit {0}
  MayTry f exclude = Unit {0}
  MayTry f (negated t) = MayTry f t
  MayTry f (all ts) = MayTryAll f ts
  MayTry f (any ts) = MayTryAll f ts
  MayTry f (compare a op l) = HasPlace f a
  MayTry f (between a low high) = HasPlace f a
  MayTry f (like a pattern) = HasPlace f a
  MayTry f (one_of a literals) = HasPlace f a
  MayTry f (is_null a) = HasPlace f a
  MayTry f (ids texts) = Unit {0}
  MayTry f (bbox a b) = HasPlace f a × (IsKeptValue (value_at f a) × IsRisingBox b)
  MayTry f (intersects a g) = MayMeet f a g
  MayTry f (disjoint a g) = MayMeet f a g
  MayTry f (within a g) = HasPlace f a
  MayTry f (during a low high) = HasPlace f a
  MayTry f (before a at) = HasPlace f a
  MayTry f (after a at) = HasPlace f a
  MayTry f (tequals a at) = HasPlace f a

  pub MayTryAll : Feature → Trees → Type 0
  MayTryAll f no_trees = Unit {0}
  MayTryAll f (tree_and t ts) = MayTry f t × MayTryAll f ts

-- the bytes are those of a feature that fits the type
pub record HasFeature (s : Stored) : Type 0 where
  pub feature : Feature
  pub same : IsStored s feature
