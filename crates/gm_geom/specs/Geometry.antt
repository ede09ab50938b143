-- The parts of a geometry.
use Rattle.std.specs.Prelude.{List, [], ◌∷◌}
use Rattle.std.specs.List.{flat_map}
use Rattle.gm_geom.specs.declared.point.Point.{Point}
use Rattle.gm_geom.specs.declared.geometry.Geometry.{Geometry}
use Rattle.gm_geom.specs.declared.geometry.Geometry.TheVariants as geo

-- lists joined end to end
abbrev pub joined : {X : Type 0} → List (List X) → List X
joined xss = flat_map (λ xs. xs) xss

-- the lone points
abbrev pub lone_points_of : Geometry → List Point
lone_points_of (geo.Point p) = p ∷ []
lone_points_of (geo.Line points) = []
lone_points_of (geo.Area rings) = []
lone_points_of (geo.ManyPoints points) = points
lone_points_of (geo.ManyLines lines) = []
lone_points_of (geo.ManyAreas areas) = []

-- the lines
abbrev pub lines_of : Geometry → List (List Point)
lines_of (geo.Point p) = []
lines_of (geo.Line points) = points ∷ []
lines_of (geo.Area rings) = []
lines_of (geo.ManyPoints points) = []
lines_of (geo.ManyLines lines) = lines
lines_of (geo.ManyAreas areas) = []

-- the polygons, each a list of rings
abbrev pub areas_of : Geometry → List (List (List Point))
areas_of (geo.Point p) = []
areas_of (geo.Line points) = []
areas_of (geo.Area rings) = rings ∷ []
areas_of (geo.ManyPoints points) = []
areas_of (geo.ManyLines lines) = []
areas_of (geo.ManyAreas areas) = areas

-- the rings of all polygons
abbrev pub rings_of : Geometry → List (List Point)
rings_of geometry = joined (areas_of geometry)

-- all points, in the order in which they are written
abbrev pub points_of : Geometry → List Point
points_of (geo.Point p) = p ∷ []
points_of (geo.Line points) = points
points_of (geo.Area rings) = joined rings
points_of (geo.ManyPoints points) = points
points_of (geo.ManyLines lines) = joined lines
points_of (geo.ManyAreas areas) = joined (joined areas)
