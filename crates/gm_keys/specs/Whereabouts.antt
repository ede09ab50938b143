-- Where a feature stands in space and time, and which values an index needs for it.
use Rattle.std.specs.Prelude.{ℕ, Bool, true, false, ℤ, List, [], ◌∷◌, ◌++◌, Option, Some, None}
use Rattle.std.specs.Prelude.{option_and_then, option_to_list}
use Rattle.std.specs.List.{list_any}
use Rattle.gm_calendar.specs.Bin.{bin_at}
use Rattle.gm_calendar.specs.declared.bin.Bin.{Bin}
use Rattle.gm_geom.specs.declared.geometry.Geometry.{Geometry}
use Rattle.gm_geom.specs.declared.geometry.Geometry.TheVariants as geo
use Rattle.gm_geom.specs.declared.point.Point.{Point}
use Rattle.gm_geom.specs.declared.point.Box2.{Box2}
use Rattle.gm_geom.specs.Extent.{extent_of}
use Rattle.gm_geom.specs.Geometry.{points_of}
use Rattle.gm_types.specs.declared.index.IndexKind.{IndexKind}
use Rattle.gm_types.specs.declared.index.IndexKind.TheVariants.{Id, Z2, Z3, Xz2, Xz3, Attr}
use Rattle.gm_types.specs.Specification.{Specification, default_geometry_of, default_date_of}
use Rattle.gm_types.specs.Specification.{period_of}
use Rattle.gm_feature.specs.declared.feature.Feature.{Feature}
use Rattle.gm_feature.specs.declared.value.Value.{Value}
use Rattle.gm_feature.specs.declared.value.Value.TheVariants as value
use Rattle.gm_feature.specs.Feature.{value_at}

abbrev pub geometry_of : Value → Option Geometry
geometry_of (value.Geo geometry) = Some geometry
geometry_of _ = None

abbrev pub instant_of : Value → Option ℤ
instant_of (value.Date at) = Some at
instant_of _ = None

-- the default geometry and the default date of a feature, where it has them
abbrev pub geometry_in : Specification → Feature → Option Geometry
geometry_in t feature =
    option_and_then (λ attribute. geometry_of (value_at feature attribute)) (default_geometry_of t)

abbrev pub instant_in : Specification → Feature → Option ℤ
instant_in t feature =
    option_and_then (λ attribute. instant_of (value_at feature attribute)) (default_date_of t)

abbrev pub point_of : Geometry → Option Point
point_of (geo.Point point) = Some point
point_of _ = None

-- the least box that holds the points of a geometry
abbrev pub box_of : Geometry → Option Box2
box_of geometry = extent_of (points_of geometry)

-- the point of the default geometry, and its box
abbrev pub point_in : Specification → Feature → Option Point
point_in t feature = option_and_then point_of (geometry_in t feature)

abbrev pub box_in : Specification → Feature → Option Box2
box_in t feature = option_and_then box_of (geometry_in t feature)

-- the bin of the default date
abbrev pub bin_in : Specification → Feature → Option Bin
bin_in t feature = option_and_then (bin_at (period_of t)) (instant_in t feature)

-- the attributes whose values an index needs
abbrev pub needs_of : Specification → IndexKind → List ℕ
needs_of t Id = []
needs_of t Z2 = option_to_list (default_geometry_of t)
needs_of t Z3 = option_to_list (default_geometry_of t) ++ option_to_list (default_date_of t)
needs_of t Xz2 = option_to_list (default_geometry_of t)
needs_of t Xz3 = option_to_list (default_geometry_of t) ++ option_to_list (default_date_of t)
needs_of t (Attr attribute) = attribute ∷ []

abbrev pub is_null : Value → Bool
is_null value.Null = true
is_null _ = false

-- a value that the index needs is null
abbrev pub lacks_value : Specification → IndexKind → Feature → Bool
lacks_value t kind feature =
    list_any (λ attribute. is_null (value_at feature attribute)) (needs_of t kind)
