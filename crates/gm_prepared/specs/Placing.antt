-- Edges that are put into bands.
use Rattle.std.specs.Prelude.{◌≡◌, ℕ, ◌<◌, ◌≤ℤ◌, List, [], length, filter, slice_index_or}
use Rattle.gm_geom.specs.declared.point.Box2.{Box2}
use Rattle.gm_shapes.specs.Segment.{box_of}
use Rattle.gm_prepared.specs.declared.edge.Edge.{Edge}
use Rattle.gm_prepared.specs.Edge.{segment_of}
use Rattle.gm_prepared.specs.Band.{count_of, meets_band}

-- the edge lies in the height of the box
pub record IsFlatIn (box : Box2) (e : Edge) : Type 0 where
  pub low_in : box.low.y ≤ℤ (box_of (segment_of e)).low.y
  pub high_in : (box_of (segment_of e)).high.y ≤ℤ box.high.y

-- the lists are those of the edges that meet each band
pub record AreBands (box : Box2) (edges : List Edge) (bands : List (List Edge)) : Type 0 where
  pub count : length bands ≡ count_of box
  pub each : (k : ℕ) → k < length bands →
      slice_index_or bands k [] ≡ filter (meets_band box k) edges
