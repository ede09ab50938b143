-- Which filters suit a type: what may be tested of an attribute of each kind, and with which
-- literals.
use Rattle.std.specs.Prelude.{◌≡◌, ◌^◌, Bool, true, false, ◌&&◌, nat_le, int_le, List}
use Rattle.std.specs.Prelude.{length, Option, Some, None, is_none}
use Rattle.std.specs.List.{list_all}
use Rattle.std.specs.Str.{is_utf8}
use Rattle.gm_calendar.specs.Instant.{is_instant}
use Rattle.gm_geom.specs.declared.point.Box2.{Box2}
use Rattle.gm_geom.specs.declared.geometry.Geometry.{Geometry}
use Rattle.gm_geom.specs.declared.geometry.Geometry.TheVariants as geo
use Rattle.gm_geom.specs.Validity.{fault_of, is_in_world}
use Rattle.gm_types.specs.declared.kind.Kind.{Kind}
use Rattle.gm_types.specs.declared.kind.Kind.TheVariants as kind
use Rattle.gm_types.specs.declared.kind.GeoKind.TheVariants as shape
use Rattle.gm_types.specs.Kind.{is_date, is_geometry}
use Rattle.gm_types.specs.Specification.{Specification, kind_at}
use Rattle.gm_feature.specs.declared.feature.Feature.{Feature}
use Rattle.gm_feature.specs.Feature.{Fits}
use Rattle.gm_feature.specs.Value.{is_below}
use Rattle.gm_filter.specs.declared.filter.Op.{Op}
use Rattle.gm_filter.specs.declared.filter.Op.TheVariants.{Eq, Ne, Lt, Le, Gt, Ge}
use Rattle.gm_filter.specs.declared.filter.Literal.{Literal}
use Rattle.gm_filter.specs.declared.filter.Literal.TheVariants as literal
use Rattle.gm_filter.specs.Tree.{Tree, Trees, include, exclude, negated, all, any, compare, between}
use Rattle.gm_filter.specs.Tree.{like, one_of, is_null, ids, bbox, intersects, disjoint, within}
use Rattle.gm_filter.specs.Tree.{during, before, after, tequals, no_trees, tree_and, members_of}

-- a literal of the kind: a number of its 32 or 64 bits, a text in UTF-8, an instant
abbrev pub is_literal_of : Kind → Literal → Bool
is_literal_of kind.Text (literal.Text t) = is_utf8 t
is_literal_of kind.Integer (literal.Number n) = is_below (2 ^ 31) n
is_literal_of kind.Long (literal.Number n) = is_below (2 ^ 63) n
is_literal_of kind.Boolean (literal.Truth b) = true
is_literal_of kind.Date (literal.Date at) = is_instant at
is_literal_of _ _ = false

-- the values of the kind are in an order that filters speak of
abbrev pub is_ordered : Kind → Bool
is_ordered kind.Text = true
is_ordered kind.Integer = true
is_ordered kind.Long = true
is_ordered kind.Boolean = false
is_ordered kind.Date = true
is_ordered (kind.Geo s) = false

-- `=` and `<>` need no order
abbrev pub is_op_of : Kind → Op → Bool
is_op_of k Eq = true
is_op_of k Ne = true
is_op_of k Lt = is_ordered k
is_op_of k Le = is_ordered k
is_op_of k Gt = is_ordered k
is_op_of k Ge = is_ordered k

abbrev pub may_compare : Op → Literal → Kind → Bool
may_compare op l k = is_op_of k op && is_literal_of k l

abbrev pub may_lie_between : Literal → Literal → Kind → Bool
may_lie_between low high k = is_ordered k && (is_literal_of k low && is_literal_of k high)

abbrev pub may_be_one_of : List Literal → Kind → Bool
may_be_one_of literals k = list_all (is_literal_of k) literals

abbrev pub is_text : Kind → Bool
is_text kind.Text = true
is_text _ = false

-- points alone, and not geometries of any kind
abbrev pub is_point_kind : Kind → Bool
is_point_kind (kind.Geo shape.Point) = true
is_point_kind _ = false

abbrev pub is_any_kind : Kind → Bool
is_any_kind k = true

abbrev pub is_kept : Geometry → Bool
is_kept g = is_none (fault_of g)

-- polygons
abbrev pub has_area : Geometry → Bool
has_area (geo.Area rings) = true
has_area (geo.ManyAreas areas) = true
has_area _ = false

-- a box in the world, the least first
abbrev pub is_box : Box2 → Bool
is_box b = (is_in_world b.low && is_in_world b.high)
    && (int_le b.low.x b.high.x && int_le b.low.y b.high.y)

-- there is such an attribute, and its kind passes
abbrev pub passes_kind : (Kind → Bool) → Option Kind → Bool
passes_kind test None = false
passes_kind test (Some k) = test k

abbrev mutual
  pub suits : Specification → Tree → Bool
  suits s include = true
  suits s exclude = true
  suits s (negated t) = suits s t
  suits s (all ts) = nat_le 2 (length (members_of ts)) && all_suit s ts
  suits s (any ts) = nat_le 2 (length (members_of ts)) && all_suit s ts
  suits s (compare a op l) = passes_kind (may_compare op l) (kind_at s a)
  suits s (between a low high) = passes_kind (may_lie_between low high) (kind_at s a)
  suits s (like a pattern) = is_utf8 pattern && passes_kind is_text (kind_at s a)
  suits s (one_of a literals) =
      nat_le 1 (length literals) && passes_kind (may_be_one_of literals) (kind_at s a)
  suits s (is_null a) = passes_kind is_any_kind (kind_at s a)
  suits s (ids texts) = nat_le 1 (length texts) && list_all is_utf8 texts
  suits s (bbox a b) = is_box b && passes_kind is_geometry (kind_at s a)
  suits s (intersects a g) = is_kept g && passes_kind is_geometry (kind_at s a)
  suits s (disjoint a g) = is_kept g && passes_kind is_geometry (kind_at s a)
  suits s (within a g) = (has_area g && is_kept g) && passes_kind is_point_kind (kind_at s a)
  suits s (during a low high) =
      (is_instant low && is_instant high) && passes_kind is_date (kind_at s a)
  suits s (before a at) = is_instant at && passes_kind is_date (kind_at s a)
  suits s (after a at) = is_instant at && passes_kind is_date (kind_at s a)
  suits s (tequals a at) = is_instant at && passes_kind is_date (kind_at s a)

  pub all_suit : Specification → Trees → Bool
  all_suit s no_trees = true
  all_suit s (tree_and t ts) = suits s t && all_suit s ts

abbrev pub Suits : Specification → Tree → Type 0
Suits s t = suits s t ≡ true

-- The filter suits a type that the feature fits.
pub record SuitOneType (t : Tree) (f : Feature) : Type 0 where
  pub of : Specification
  pub filter_suits : Suits of t
  pub feature_fits : Fits of f
