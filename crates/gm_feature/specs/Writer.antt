-- The bytes of features: one spelling for each.
use Rattle.std.specs.Prelude.{ℕ, ◌<◌, ◌^◌, ℤ, All, Bool, true, false, List, [], ◌∷◌, ◌++◌, length}
use Rattle.std.specs.List.{flat_map}
use Rattle.std.specs.Int.{Width, w16, w32, w64, to_be_bytes, cast_unsigned}
use Rattle.gm_geom.specs.declared.geometry.Geometry.{Geometry}
use Rattle.gm_geom.specs.declared.geometry.Geometry.TheVariants as geo
use Rattle.gm_geom.specs.declared.point.Point.{Point}
use Rattle.gm_feature.specs.declared.feature.Feature.{Feature}
use Rattle.gm_feature.specs.declared.value.Value.{Value}
use Rattle.gm_feature.specs.declared.value.Value.TheVariants as value

-- a signed number in two's complement, its highest byte first
abbrev pub signed_bytes : Width → ℤ → List ℕ
signed_bytes w z = to_be_bytes w (cast_unsigned w z)

-- a length, and that many bytes
abbrev pub string_bytes : Width → List ℕ → List ℕ
string_bytes w bytes = to_be_bytes w (length bytes) ++ bytes

-- four bytes of count, and the members
abbrev pub list_bytes : {X : Type 0} → (X → List ℕ) → List X → List ℕ
list_bytes spell members = to_be_bytes w32 (length members) ++ flat_map spell members

abbrev pub point_bytes : Point → List ℕ
point_bytes point = signed_bytes w32 point.x ++ signed_bytes w32 point.y

abbrev pub points_bytes : List Point → List ℕ
points_bytes points = list_bytes point_bytes points

-- lines, and the rings of a polygon
abbrev pub lines_bytes : List (List Point) → List ℕ
lines_bytes lines = list_bytes points_bytes lines

abbrev pub areas_bytes : List (List (List Point)) → List ℕ
areas_bytes areas = list_bytes lines_bytes areas

-- the byte of a kind of geometry
abbrev pub shape_byte : Geometry → ℕ
shape_byte (geo.Point point) = 1
shape_byte (geo.Line points) = 2
shape_byte (geo.Area rings) = 3
shape_byte (geo.ManyPoints points) = 4
shape_byte (geo.ManyLines lines) = 5
shape_byte (geo.ManyAreas areas) = 6

-- its lists
abbrev pub body_bytes : Geometry → List ℕ
body_bytes (geo.Point point) = point_bytes point
body_bytes (geo.Line points) = points_bytes points
body_bytes (geo.Area rings) = lines_bytes rings
body_bytes (geo.ManyPoints points) = points_bytes points
body_bytes (geo.ManyLines lines) = lines_bytes lines
body_bytes (geo.ManyAreas areas) = areas_bytes areas

abbrev pub geometry_bytes : Geometry → List ℕ
geometry_bytes geometry = shape_byte geometry ∷ body_bytes geometry

-- 0 for null, and 1 for any other value
abbrev pub presence_byte : Value → ℕ
presence_byte value.Null = 0
presence_byte (value.Text bytes) = 1
presence_byte (value.Integer z) = 1
presence_byte (value.Long z) = 1
presence_byte (value.Boolean b) = 1
presence_byte (value.Date at) = 1
presence_byte (value.Geo geometry) = 1

abbrev pub truth_byte : Bool → ℕ
truth_byte true = 1
truth_byte false = 0

-- what stands behind that byte
abbrev pub content_bytes : Value → List ℕ
content_bytes value.Null = []
content_bytes (value.Text bytes) = string_bytes w32 bytes
content_bytes (value.Integer z) = signed_bytes w32 z
content_bytes (value.Long z) = signed_bytes w64 z
content_bytes (value.Boolean b) = truth_byte b ∷ []
content_bytes (value.Date at) = signed_bytes w64 at
content_bytes (value.Geo geometry) = geometry_bytes geometry

abbrev pub value_bytes : Value → List ℕ
value_bytes v = presence_byte v ∷ content_bytes v

abbrev pub values_bytes : List Value → List ℕ
values_bytes values = flat_map value_bytes values

-- two bytes of length of the identifier, the identifier, and the values in order
abbrev pub feature_bytes : Feature → List ℕ
feature_bytes feature = string_bytes w16 feature.id ++ values_bytes feature.values

-- as many members as four bytes count, in each list
abbrev pub AreCountedLines : List (List Point) → Type 0
AreCountedLines lines = (length lines < 2 ^ 32) × All (λ points. length points < 2 ^ 32) lines

abbrev pub AreCountedAreas : List (List (List Point)) → Type 0
AreCountedAreas areas = (length areas < 2 ^ 32) × All AreCountedLines areas
