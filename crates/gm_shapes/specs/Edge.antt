-- The edges of a geometry.
use Rattle.std.specs.Prelude.{Bool, List, [], ◌∷◌, ◌++◌, map}
use Rattle.std.specs.List.{list_any, flat_map}
use Rattle.gm_geom.specs.declared.point.Point.{Point}
use Rattle.gm_geom.specs.declared.point.Box2.{Box2}
use Rattle.gm_geom.specs.declared.geometry.Geometry.{Geometry}
use Rattle.gm_geom.specs.Extent.{IsInBox}
use Rattle.gm_geom.specs.Geometry.{lone_points_of, lines_of, rings_of}
use Rattle.gm_shapes.specs.declared.segment.Segment.{Segment}
use Rattle.gm_shapes.specs.Segment.{segment, do_meet}

-- the segments between neighbours on the way from a point along others
abbrev pub edges_from : Point → List Point → List Segment
edges_from p [] = []
edges_from p (q ∷ points) = segment p q ∷ edges_from q points

-- the segments between neighbours of a list
abbrev pub edges_between : List Point → List Segment
edges_between [] = []
edges_between (p ∷ points) = edges_from p points

-- those of each list
abbrev pub edges_between_all : List (List Point) → List Segment
edges_between_all lists = flat_map edges_between lists

-- a lone point as a segment
abbrev pub lone_edge : Point → Segment
lone_edge p = segment p p

-- the lone points, and the segments of the lines and of the rings
abbrev pub edges_of : Geometry → List Segment
edges_of geometry =
    map lone_edge (lone_points_of geometry)
    ++ (edges_between_all (lines_of geometry) ++ edges_between_all (rings_of geometry))

-- a segment meets an edge of the geometry
abbrev pub meets_edge_of : Geometry → Segment → Bool
meets_edge_of geometry s = list_any (do_meet s) (edges_of geometry)

-- both ends of the segment lie in the box
pub record IsEdgeIn (box : Box2) (s : Segment) : Type 0 where
  pub start_in : IsInBox box s.start
  pub end_in : IsInBox box s.end
