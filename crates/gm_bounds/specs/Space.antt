-- The boxes of a filter: where the default geometry is to be looked for.
use Rattle.std.specs.Prelude.{ℕ, Bool, [], Option, Some, None}
use Rattle.gm_geom.specs.declared.point.Box2.{Box2}
use Rattle.gm_geom.specs.declared.geometry.Geometry.{Geometry}
use Rattle.gm_geom.specs.Geometry.{points_of}
use Rattle.gm_geom.specs.Extent.{extent_of}
use Rattle.gm_types.specs.Specification.{Specification, default_geometry_of, default_shape_of}
use Rattle.gm_types.specs.Index.{is_point_shape}
use Rattle.gm_filter.specs.Tree.{Tree, bbox, intersects, within}
use Rattle.gm_bounds.specs.declared.bound.Bound.{Bound}
use Rattle.gm_bounds.specs.declared.bound.Bound.TheVariants.{World, Listed}
use Rattle.gm_bounds.specs.Bound.{Rules, bound_of, on}
use Rattle.gm_bounds.specs.Lists.{single, capped, meeting}
use Rattle.gm_bounds.specs.ClosedBox.{met, joined, is_void}

abbrev pub box_of_extent : Option Box2 → Bound Box2
box_of_extent None = Listed []
box_of_extent (Some extent) = single is_void extent

-- the box of a literal
abbrev pub box_of : Geometry → Bound Box2
box_of g = box_of_extent (extent_of (points_of g))

-- of a test, where attribute d is the default geometry
abbrev pub box_test : ℕ → Tree → Bound Box2
box_test d (bbox a b) = on a d (single is_void b)
box_test d (intersects a g) = on a d (box_of g)
box_test d (within a g) = on a d (box_of g)
box_test d _ = World

-- Of points AND takes what lies in both boxes. An object may meet two boxes and not what lies in
-- both:
-- of other geometries the first list is kept.
abbrev pub box_rules : ℕ → Bool → Rules Box2
box_rules d of_points =
    record {
      test = box_test d;
      met = meeting of_points met is_void joined;
      counted = capped joined;
    }

abbrev pub boxes_at : Option ℕ → Bool → Tree → Bound Box2
boxes_at None of_points t = World
boxes_at (Some d) of_points t = bound_of (box_rules d of_points) t

-- the world where the type has no default geometry
abbrev pub boxes_of : Specification → Tree → Bound Box2
boxes_of s t = boxes_at (default_geometry_of s) (is_point_shape (default_shape_of s)) t
