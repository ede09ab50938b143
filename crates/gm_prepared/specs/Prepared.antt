-- What a prepared geometry keeps.
use Rattle.std.specs.Prelude.{◌≡◌, ◌≤ℤ◌, ℤ, List, None, Some}
use Rattle.std.specs.List.{AllByRecursion}
use Rattle.gm_geom.specs.declared.point.Box2.{Box2}
use Rattle.gm_geom.specs.declared.geometry.Geometry.{Geometry}
use Rattle.gm_geom.specs.Geometry.{points_of}
use Rattle.gm_geom.specs.Validity.{fault_of}
use Rattle.gm_geom.specs.Extent.{HoldsAll, extent_of}
use Rattle.gm_shapes.specs.Segment.{box_of}
use Rattle.gm_prepared.specs.declared.edge.Edge.{Edge}
use Rattle.gm_prepared.specs.Edge.{segment_of, numbered_edges}
use Rattle.gm_prepared.specs.Placing.{AreBands, IsFlatIn}

-- the bounds are those of the geometry, which is kept, and the lists its bands
pub record IsPrepared (geometry : Geometry) (bounds : Box2)
    (lists : List (List Edge)) : Type 0 where
  pub kept : fault_of geometry ≡ None
  pub extent : extent_of (points_of geometry) ≡ Some bounds
  pub held : HoldsAll bounds (points_of geometry)
  pub along : bounds.low.y ≤ℤ bounds.high.y
  pub flat : AllByRecursion (IsFlatIn bounds) (numbered_edges geometry)
  pub bands : AreBands bounds (numbered_edges geometry) lists

-- the edge has a y from the low one to the high one
pub record IsBetween (low high : ℤ) (e : Edge) : Type 0 where
  pub y : ℤ
  pub from_low : low ≤ℤ y
  pub to_high : y ≤ℤ high
  pub from_edge : (box_of (segment_of e)).low.y ≤ℤ y
  pub to_edge : y ≤ℤ (box_of (segment_of e)).high.y
