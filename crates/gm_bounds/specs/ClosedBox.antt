-- Boxes as members of a bound, and what is found in one.
use Rattle.std.specs.Prelude.{Bool, false, ◌&&◌, ◌||◌, int_lt, int_le, Option, Some, None}
use Rattle.gm_geom.specs.declared.point.Point.{Point}
use Rattle.gm_geom.specs.declared.point.Box2.{Box2}
use Rattle.gm_geom.specs.declared.geometry.Geometry.{Geometry}
use Rattle.gm_geom.specs.declared.geometry.Geometry.TheVariants as geo
use Rattle.gm_geom.specs.Geometry.{points_of}
pub use Rattle.gm_geom.specs.Extent.{low_corner, high_corner}
use Rattle.gm_geom.specs.Extent.{extent_of}
use Rattle.gm_shapes.specs.Segment.{do_overlap}
use Rattle.gm_feature.specs.declared.value.Value.{Value}
use Rattle.gm_feature.specs.declared.value.Value.TheVariants as value

-- what lies in both
abbrev pub met : Box2 → Box2 → Box2
met b c = record { low = high_corner b.low c.low; high = low_corner b.high c.high }

-- the least box that holds both
abbrev pub joined : Box2 → Box2 → Box2
joined b c = record { low = low_corner b.low c.low; high = high_corner b.high c.high }

-- it ends before it begins
abbrev pub is_void : Box2 → Bool
is_void b = int_lt b.high.x b.low.x || int_lt b.high.y b.low.y

-- the point is in the closed box
abbrev pub is_in_box : Point → Box2 → Bool
is_in_box p b =
    (int_le b.low.x p.x && int_le p.x b.high.x) && (int_le b.low.y p.y && int_le p.y b.high.y)

abbrev pub extent_overlaps : Option Box2 → Box2 → Bool
extent_overlaps None b = false
extent_overlaps (Some extent) b = do_overlap extent b

-- a point is in the box, and the extent of any other geometry overlaps it
abbrev pub is_found_in : Geometry → Box2 → Bool
is_found_in (geo.Point p) b = is_in_box p b
is_found_in (geo.Line points) b = extent_overlaps (extent_of points) b
is_found_in (geo.Area rings) b = extent_overlaps (extent_of (points_of (geo.Area rings))) b
is_found_in (geo.ManyPoints points) b = extent_overlaps (extent_of points) b
is_found_in (geo.ManyLines lines) b =
    extent_overlaps (extent_of (points_of (geo.ManyLines lines))) b
is_found_in (geo.ManyAreas areas) b =
    extent_overlaps (extent_of (points_of (geo.ManyAreas areas))) b

-- the value is a geometry that is so in the box
abbrev pub is_geometry_in : Value → Box2 → Bool
is_geometry_in (value.Geo g) b = is_found_in g b
is_geometry_in _ b = false
