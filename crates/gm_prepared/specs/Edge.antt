-- The edges of a geometry, each with the number of its polygon.
use Rattle.std.specs.Prelude.{ℕ, suc, List, [], ◌∷◌, ◌++◌, map, Option, None, Some}
use Rattle.gm_geom.specs.declared.point.Point.{Point}
use Rattle.gm_geom.specs.declared.geometry.Geometry.{Geometry}
use Rattle.gm_geom.specs.Geometry.{lone_points_of, lines_of, areas_of}
use Rattle.gm_shapes.specs.declared.segment.Segment.{Segment}
use Rattle.gm_shapes.specs.Segment.{segment}
use Rattle.gm_shapes.specs.Edge.{lone_edge, edges_between_all}
use Rattle.gm_prepared.specs.declared.edge.Edge.{Edge}

abbrev pub segment_of : Edge → Segment
segment_of e = segment e.a e.b

abbrev pub tagged_edge : Option ℕ → Segment → Edge
tagged_edge area s = record { a = s.start; b = s.end; area = area }

-- the segments as edges that belong to one polygon, or to none
abbrev pub tagged : Option ℕ → List Segment → List Edge
tagged area segments = map (tagged_edge area) segments

-- the edges of polygons that are numbered from n on
abbrev pub area_edges : ℕ → List (List (List Point)) → List Edge
area_edges n [] = []
area_edges n (rings ∷ areas) = tagged (Some n) (edges_between_all rings) ++ area_edges (suc n) areas

-- the lone points and the segments of lines, which belong to no polygon, and those of the polygons
abbrev pub numbered_edges : Geometry → List Edge
numbered_edges geometry =
    tagged None (map lone_edge (lone_points_of geometry) ++ edges_between_all (lines_of geometry))
    ++ area_edges 0 (areas_of geometry)
