-- Which geometries an attribute holds.
use Rattle.std.specs.Prelude.{Bool, true, false}
use Rattle.gm_geom.specs.declared.geometry.Geometry.{Geometry}
use Rattle.gm_geom.specs.declared.geometry.Geometry.TheVariants as geo
use Rattle.gm_types.specs.declared.kind.GeoKind.{GeoKind}
use Rattle.gm_types.specs.declared.kind.GeoKind.TheVariants as shape

-- the geometry is of the kind
abbrev pub has_shape : GeoKind → Geometry → Bool
has_shape shape.Any geometry = true
has_shape shape.Point (geo.Point point) = true
has_shape shape.LineString (geo.Line points) = true
has_shape shape.Polygon (geo.Area rings) = true
has_shape shape.MultiPoint (geo.ManyPoints points) = true
has_shape shape.MultiLineString (geo.ManyLines lines) = true
has_shape shape.MultiPolygon (geo.ManyAreas areas) = true
has_shape _ _ = false
