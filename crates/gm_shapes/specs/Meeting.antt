-- When two geometries meet, and when a point is within one.
use Rattle.std.specs.Prelude.{Bool, not, ◌&&◌, ◌||◌, List, [], ◌∷◌}
use Rattle.std.specs.List.{list_any}
use Rattle.gm_geom.specs.declared.point.Point.{Point}
use Rattle.gm_geom.specs.declared.point.Box2.{Box2}
use Rattle.gm_geom.specs.declared.geometry.Geometry.{Geometry}
use Rattle.gm_geom.specs.declared.geometry.Geometry.TheVariants as geo
use Rattle.gm_geom.specs.Geometry.{points_of, areas_of}
use Rattle.gm_shapes.specs.Edge.{edges_of, meets_edge_of}
use Rattle.gm_shapes.specs.Polygon.{is_on_edge, is_in_polygon}

-- the point is in one of the polygons
abbrev pub is_in_any : List (List (List Point)) → Point → Bool
is_in_any areas p = list_any (is_in_polygon p) areas

-- an edge of the one meets an edge of the other
abbrev pub has_edge_on : Geometry → Geometry → Bool
has_edge_on one two = list_any (meets_edge_of two) (edges_of one)

-- a vertex of the one is in a polygon of the other
abbrev pub has_vertex_in : Geometry → Geometry → Bool
has_vertex_in one two = list_any (is_in_any (areas_of two)) (points_of one)

abbrev pub do_intersect : Geometry → Geometry → Bool
do_intersect one two = has_edge_on one two || (has_vertex_in one two || has_vertex_in two one)

-- the point is in the polygon and on none of its edges
abbrev pub is_inside : Point → List (List Point) → Bool
is_inside p rings = is_in_polygon p rings && not (is_on_edge p rings)

-- the point is so in one of the polygons of the geometry
abbrev pub is_within : Point → Geometry → Bool
is_within p geometry = list_any (is_inside p) (areas_of geometry)

abbrev pub low_right : Box2 → Point
low_right box = record { x = box.high.x; y = box.low.y }

abbrev pub high_left : Box2 → Point
high_left box = record { x = box.low.x; y = box.high.y }

-- the corners of a box, the least first and again last
abbrev pub box_ring : Box2 → List Point
box_ring box = box.low ∷ low_right box ∷ box.high ∷ high_left box ∷ box.low ∷ []

-- a closed box as a polygon
abbrev pub box_area : Box2 → Geometry
box_area box = geo.Area (box_ring box ∷ [])
