-- Kinds of attributes, as specifications name them.
use Rattle.std.specs.Prelude.{ℕ, Bool, true, false, List, codes, Option, Some, None}
use Rattle.gm_types.specs.declared.kind.GeoKind.{GeoKind}
use Rattle.gm_types.specs.declared.kind.GeoKind.TheVariants as shape
use Rattle.gm_types.specs.declared.kind.Kind.{Kind}
use Rattle.gm_types.specs.declared.kind.Kind.TheVariants.{Text, Integer, Long, Boolean, Date, Geo}

abbrev pub shape_name : GeoKind → List ℕ
shape_name shape.Point = codes "Point"
shape_name shape.LineString = codes "LineString"
shape_name shape.Polygon = codes "Polygon"
shape_name shape.MultiPoint = codes "MultiPoint"
shape_name shape.MultiLineString = codes "MultiLineString"
shape_name shape.MultiPolygon = codes "MultiPolygon"
shape_name shape.Any = codes "Geometry"

abbrev pub kind_name : Kind → List ℕ
kind_name Text = codes "String"
kind_name Integer = codes "Integer"
kind_name Long = codes "Long"
kind_name Boolean = codes "Boolean"
kind_name Date = codes "Date"
kind_name (Geo g) = shape_name g

abbrev pub is_date : Kind → Bool
is_date Text = false
is_date Integer = false
is_date Long = false
is_date Boolean = false
is_date Date = true
is_date (Geo g) = false

abbrev pub is_geometry : Kind → Bool
is_geometry Text = false
is_geometry Integer = false
is_geometry Long = false
is_geometry Boolean = false
is_geometry Date = false
is_geometry (Geo g) = true

abbrev pub is_point : GeoKind → Bool
is_point shape.Point = true
is_point shape.LineString = false
is_point shape.Polygon = false
is_point shape.MultiPoint = false
is_point shape.MultiLineString = false
is_point shape.MultiPolygon = false
is_point shape.Any = false

-- the geometries that a kind holds, if it holds any
abbrev pub shape_of : Kind → Option GeoKind
shape_of Text = None
shape_of Integer = None
shape_of Long = None
shape_of Boolean = None
shape_of Date = None
shape_of (Geo g) = Some g
