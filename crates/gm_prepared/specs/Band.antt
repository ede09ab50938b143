-- The bands of a geometry: its height cut into at most 256 parts that are as even as whole numbers
-- allow.
use Rattle.std.specs.Prelude.{ℕ, suc, ◌+◌, ◌-◌, ◌*◌, ◌/◌, min, ℤ, pos, ◌+ℤ◌, ◌-ℤ◌, unsigned_abs}
use Rattle.std.specs.Prelude.{int_le, Bool, ◌&&◌, List, filter, unwrap_or}
use Rattle.gm_geom.specs.declared.point.Box2.{Box2}
use Rattle.gm_geom.specs.declared.geometry.Geometry.{Geometry}
use Rattle.gm_geom.specs.Geometry.{points_of}
use Rattle.gm_geom.specs.Extent.{extent_of}
use Rattle.gm_shapes.specs.Segment.{box_of}
use Rattle.gm_prepared.specs.declared.band.TheConstants.{BAND_LIMIT}
use Rattle.gm_prepared.specs.declared.edge.Edge.{Edge}
use Rattle.gm_prepared.specs.Edge.{segment_of, numbered_edges}

abbrev pub no_box : Box2
no_box = record { low = record { x = pos 0; y = pos 0 }; high = record { x = pos 0; y = pos 0 } }

-- the least box that holds the points of a geometry, which has some
abbrev pub bounds_of : Geometry → Box2
bounds_of geometry = unwrap_or (extent_of (points_of geometry)) no_box

-- how many y values the box has, both ends counted
abbrev pub height_of : Box2 → ℕ
height_of box = unsigned_abs (box.high.y -ℤ box.low.y) + 1

abbrev pub count_of : Box2 → ℕ
count_of box = min BAND_LIMIT (height_of box)

-- where the band k begins, above the least y
abbrev pub offset_of : Box2 → ℕ → ℕ
offset_of box k = k * height_of box / count_of box

-- the least and the greatest y of the band k
abbrev pub band_low : Box2 → ℕ → ℤ
band_low box k = box.low.y +ℤ pos (offset_of box k)

abbrev pub band_high : Box2 → ℕ → ℤ
band_high box k = box.low.y +ℤ pos (offset_of box (suc k)) -ℤ pos 1

-- a y from the lesser end of the edge to the greater is in the band
abbrev pub meets_band : Box2 → ℕ → Edge → Bool
meets_band box k e =
    int_le (band_low box k) (box_of (segment_of e)).high.y
    && int_le (box_of (segment_of e)).low.y (band_high box k)

abbrev pub edges_in_band : Geometry → ℕ → List Edge
edges_in_band geometry k = filter (meets_band (bounds_of geometry) k) (numbered_edges geometry)

-- the band that has this y of the box, in closed form
abbrev pub band_at : Box2 → ℤ → ℕ
band_at box y = ((unsigned_abs (y -ℤ box.low.y) + 1) * count_of box - 1) / height_of box
