-- The cells of places and moments along each dimension, and the codes of what covers them.
use Rattle.std.specs.Prelude.{◌≡◌, true, ◌≤ℤ◌, ℕ, ℤ, pos, negsuc, ◌*◌, ◌+ℤ◌, List, [], ◌∷◌}
use Rattle.gm_calendar.specs.declared.period.Period.{Period}
use Rattle.gm_calendar.specs.Period.{longest_of}
use Rattle.gm_curve.specs.Curve.{z_code as code_of_cells}
use Rattle.gm_curve.specs.Scale.{normal_of}
use Rattle.gm_curve.specs.Xz.{xz_code as code_of_box}
use Rattle.gm_geom.specs.declared.point.Point.{Point}
use Rattle.gm_geom.specs.declared.point.Box2.{Box2}
use Rattle.gm_geom.specs.Validity.{is_in_world, longitude_limit, latitude_limit}

-- a number that is not below 0
abbrev pub natural : ℤ → ℕ
natural (pos n) = n
natural (negsuc n) = 0

-- the place of a coordinate along the world, from its lower end, which lies `half` below 0
abbrev pub along : ℕ → ℤ → ℕ
along half z = natural (z +ℤ pos half)

-- the size of the world in units
abbrev pub world_width : ℕ
world_width = 2 * longitude_limit

abbrev pub world_height : ℕ
world_height = 2 * latitude_limit

-- the cell of a longitude, of a latitude, and of an offset in a bin, among 2^bits along each
abbrev pub longitude_cell : ℕ → ℤ → ℕ
longitude_cell bits x = normal_of (along longitude_limit x) world_width bits

abbrev pub latitude_cell : ℕ → ℤ → ℕ
latitude_cell bits y = normal_of (along latitude_limit y) world_height bits

abbrev pub time_cell : Period → ℕ → ℕ → ℕ
time_cell period bits offset = normal_of offset (longest_of period) bits

-- those of a point: longitude is coordinate 0, and latitude 1
abbrev pub cells_of : ℕ → Point → List ℕ
cells_of bits point = longitude_cell bits point.x ∷ latitude_cell bits point.y ∷ []

-- and with an offset, which is coordinate 2
abbrev pub cells_at : Period → ℕ → Point → ℕ → List ℕ
cells_at period bits point offset =
    longitude_cell bits point.x ∷ latitude_cell bits point.y ∷ time_cell period bits offset ∷ []

-- the Z code of a point, alone and at an offset in a bin
unfoldable pub z2_code : ℕ → Point → ℕ
z2_code bits point = code_of_cells 2 bits (cells_of bits point)

unfoldable pub z3_code : Period → ℕ → Point → ℕ → ℕ
z3_code period bits point offset = code_of_cells 3 bits (cells_at period bits point offset)

-- the XZ code of a box, alone and at an offset in a bin, which is one instant
unfoldable pub xz2_code : ℕ → Box2 → ℕ
xz2_code bits box = code_of_box 2 bits (cells_of bits box.low) (cells_of bits box.high)

unfoldable pub xz3_code : Period → ℕ → Box2 → ℕ → ℕ
xz3_code period bits box offset =
    code_of_box 3 bits (cells_at period bits box.low offset) (cells_at period bits box.high offset)

-- the corners of a box are in the world, and do not fall
pub record IsBoxInWorld (box : Box2) : Type 0 where
  pub low : is_in_world box.low ≡ true
  pub high : is_in_world box.high ≡ true
  pub wide : box.low.x ≤ℤ box.high.x
  pub tall : box.low.y ≤ℤ box.high.y
