-- Points on the edges of a polygon, and in it: the even-odd rule. A polygon is a list of rings.
use Rattle.std.specs.Prelude.{ℕ, zero, suc, pos, Bool, false, not, ◌&&◌, ◌||◌, if◌then◌else◌}
use Rattle.std.specs.Prelude.{int_lt, int_le, List}
use Rattle.std.specs.List.{list_any, count_by}
use Rattle.gm_geom.specs.declared.point.Point.{Point}
use Rattle.gm_shapes.specs.declared.segment.Segment.{Segment}
use Rattle.gm_shapes.specs.Segment.{side_of, do_meet}
use Rattle.gm_shapes.specs.Edge.{lone_edge, edges_between_all}

-- the point lies on an edge of a ring
abbrev pub is_on_edge : Point → List (List Point) → Bool
is_on_edge p rings = list_any (do_meet (lone_edge p)) (edges_between_all rings)

-- p is as high as a point from a up to b, b left out
abbrev pub is_level : Point → Point → Point → Bool
is_level p a b = int_le a.y p.y && int_lt p.y b.y

-- a is below b: the ray from p towards greater x crosses the edge from a to b, whose upper end
-- does not count
abbrev pub crosses_up : Point → Point → Point → Bool
crosses_up p a b = is_level p a b && int_lt (pos 0) (side_of a b p)

abbrev pub crosses : Point → Segment → Bool
crosses p s =
    if int_lt s.end.y s.start.y then crosses_up p s.end s.start else crosses_up p s.start s.end

abbrev pub is_odd : ℕ → Bool
is_odd zero = false
is_odd (suc n) = not (is_odd n)

-- the ray from p crosses an odd number of edges of all rings
abbrev pub is_around : Point → List (List Point) → Bool
is_around p rings = is_odd (count_by (crosses p) (edges_between_all rings))

-- the point is in the polygon
abbrev pub is_in_polygon : Point → List (List Point) → Bool
is_in_polygon p rings = is_on_edge p rings || is_around p rings
