-- Boxes and what lies in them.
use Rattle.std.specs.Prelude.{◌≤ℤ◌, List, Option, None, Some, fold}
use Rattle.std.specs.List.{AllByRecursion}
use Rattle.std.specs.Int.{int_min, int_max}
use Rattle.gm_geom.specs.declared.point.Point.{Point}
use Rattle.gm_geom.specs.declared.point.Box2.{Box2}

-- the point lies in the box, whose sides belong to it
pub record IsInBox (box : Box2) (p : Point) : Type 0 where
  pub left : box.low.x ≤ℤ p.x
  pub right : p.x ≤ℤ box.high.x
  pub below : box.low.y ≤ℤ p.y
  pub above : p.y ≤ℤ box.high.y

-- the inner box lies in the outer one
pub record IsBoxInside (outer inner : Box2) : Type 0 where
  pub left : outer.low.x ≤ℤ inner.low.x
  pub right : inner.high.x ≤ℤ outer.high.x
  pub below : outer.low.y ≤ℤ inner.low.y
  pub above : inner.high.y ≤ℤ outer.high.y

abbrev pub HoldsAll : Box2 → List Point → Type 0
HoldsAll box points = AllByRecursion (IsInBox box) points

-- the box holds all the points, and each box that holds them holds it
pub record IsLeastBox (box : Box2) (points : List Point) : Type 0 where
  pub holds : HoldsAll box points
  pub least : (other : Box2) → HoldsAll other points → IsBoxInside other box

abbrev pub low_corner : Point → Point → Point
low_corner p q = record { x = int_min p.x q.x; y = int_min p.y q.y }

abbrev pub high_corner : Point → Point → Point
high_corner p q = record { x = int_max p.x q.x; y = int_max p.y q.y }

-- the least box that holds what the extent held, and a point
abbrev pub widened : Option Box2 → Point → Option Box2
widened None p = Some (record { low = p; high = p })
widened (Some box) p = Some (record { low = low_corner box.low p; high = high_corner box.high p })

-- the least box of a list of points, if there are any
abbrev pub extent_of : List Point → Option Box2
extent_of points = fold widened None points
