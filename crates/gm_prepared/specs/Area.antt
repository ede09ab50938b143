-- Whether a point is in one of the polygons whose edges stand in a row, polygon by polygon.
use Rattle.std.specs.Prelude.{ℕ, ◌==◌, Bool, true, false, not, ◌&&◌, ◌||◌}
use Rattle.std.specs.Prelude.{List, [], ◌∷◌, Option, None, Some}
use Rattle.gm_geom.specs.declared.point.Point.{Point}
use Rattle.gm_shapes.specs.Segment.{do_meet}
use Rattle.gm_shapes.specs.Edge.{lone_edge}
use Rattle.gm_shapes.specs.Polygon.{crosses}
use Rattle.gm_prepared.specs.declared.edge.Edge.{Edge}
use Rattle.gm_prepared.specs.Edge.{segment_of}

abbrev pub is_one_area : Option ℕ → Option ℕ → Bool
is_one_area None None = true
is_one_area None (Some n) = false
is_one_area (Some m) None = false
is_one_area (Some m) (Some n) = m == n

abbrev pub differs : Bool → Bool → Bool
differs true b = not b
differs false b = b

-- the point lies on an edge, or crosses an odd number of edges of one polygon, where `odd` says
-- whether it crosses an odd number of edges of the polygon `area` in front of these
abbrev pub is_held : Point → Option ℕ → Bool → List Edge → Bool
is_held p area odd [] = odd
is_held p area odd (e ∷ edges) =
    (do_meet (lone_edge p) (segment_of e) || (odd && not (is_one_area area e.area)))
    || is_held p e.area (differs odd (crosses p (segment_of e))) edges
