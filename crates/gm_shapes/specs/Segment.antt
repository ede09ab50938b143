-- Sides of a segment, and when two segments meet.
use Rattle.std.specs.Prelude.{ℤ, pos, ◌-ℤ◌, ◌*ℤ◌, Bool, not, ◌&&◌, ◌||◌, int_lt, int_le}
use Rattle.gm_geom.specs.declared.point.Point.{Point}
use Rattle.gm_geom.specs.declared.point.Box2.{Box2}
use Rattle.gm_geom.specs.Extent.{low_corner, high_corner}
use Rattle.gm_shapes.specs.declared.segment.Segment.{Segment}

abbrev pub segment : Point → Point → Segment
segment a b = record { start = a; end = b }

-- the cross product of the way from a to b and the way from a to p: above 0 where p lies left,
-- below 0 where it lies right
abbrev pub side_of : Point → Point → Point → ℤ
side_of a b p = (b.x -ℤ a.x) *ℤ (p.y -ℤ a.y) -ℤ (b.y -ℤ a.y) *ℤ (p.x -ℤ a.x)

-- the least box that holds the segment
abbrev pub box_of : Segment → Box2
box_of s = record { low = low_corner s.start s.end; high = high_corner s.start s.end }

-- the box of one point
abbrev pub lone_box : Point → Box2
lone_box p = record { low = p; high = p }

-- the box b begins nowhere past the end of the box c
abbrev pub reaches : Box2 → Box2 → Bool
reaches b c = int_le b.low.x c.high.x && int_le b.low.y c.high.y

-- the closed boxes have a point in common
abbrev pub do_overlap : Box2 → Box2 → Bool
do_overlap b c = reaches b c && reaches c b

abbrev pub are_of_one_sign : ℤ → ℤ → Bool
are_of_one_sign m n =
    (int_lt (pos 0) m && int_lt (pos 0) n) || (int_lt m (pos 0) && int_lt n (pos 0))

-- both ends of t lie strictly on one side of the line through s
abbrev pub is_beside : Segment → Segment → Bool
is_beside s t = are_of_one_sign (side_of s.start s.end t.start) (side_of s.start s.end t.end)

-- the closed segments s and t meet: their boxes overlap, and neither lies on one side of the other
abbrev pub do_meet : Segment → Segment → Bool
do_meet s t = do_overlap (box_of s) (box_of t) && (not (is_beside s t) && not (is_beside t s))
