-- How a point stands to polygons whose edges stand in a row, polygon by polygon.
use Rattle.std.specs.Prelude.{Bool, false, not, ◌&&◌, ◌||◌, if◌then◌else◌, List, [], ◌∷◌, None}
use Rattle.gm_geom.specs.declared.point.Point.{Point}
use Rattle.gm_shapes.specs.Segment.{do_meet}
use Rattle.gm_shapes.specs.Edge.{lone_edge}
use Rattle.gm_shapes.specs.Polygon.{crosses}
use Rattle.gm_prepared.specs.declared.edge.Edge.{Edge}
use Rattle.gm_prepared.specs.declared.standing.Standing.{Standing}
use Rattle.gm_prepared.specs.Edge.{segment_of}
use Rattle.gm_prepared.specs.Area.{is_one_area, differs}

abbrev pub no_edges : Standing
no_edges = record { area = None; on_edge = false; odd = false }

-- the point is in a polygon that has these edges alone, and on none of them
abbrev pub is_inside : Standing → Bool
is_inside s = s.odd && not s.on_edge

-- with an edge more of the same polygon
abbrev pub with_edge : Point → Standing → Edge → Standing
with_edge p s e = record {
  area = e.area;
  on_edge = s.on_edge || do_meet (lone_edge p) (segment_of e);
  odd = differs s.odd (crosses p (segment_of e));
}

-- with an edge more, of the same polygon or the first of another
abbrev pub after : Point → Standing → Edge → Standing
after p s e = with_edge p (if is_one_area s.area e.area then s else no_edges) e

-- the edge is of another polygon than that which the point is in
abbrev pub is_settled : Standing → Edge → Bool
is_settled s e = is_inside s && not (is_one_area s.area e.area)

-- the point is in one of the polygons and on none of its edges, where s tells of the edges in front
abbrev pub has_inside : Point → Standing → List Edge → Bool
has_inside p s [] = is_inside s
has_inside p s (e ∷ edges) = is_settled s e || has_inside p (after p s e) edges
