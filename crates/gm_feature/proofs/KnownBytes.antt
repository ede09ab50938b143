-- The spelling of known features, in full.
use Rattle.std.proofs.Common.{◌≡◌, ℤ, pos, negsuc, true, false, [], ◌∷◌, refl}
use Rattle.std.specs.Prelude.{codes}
use Rattle.gm_geom.specs.declared.geometry.Geometry.TheVariants as geo
use Rattle.gm_geom.specs.declared.point.Point.{Point}
use Rattle.gm_feature.specs.declared.value.Value.TheVariants as value
use Rattle.gm_feature.specs.Writer.{value_bytes, feature_bytes}

abbrev at : ℤ → ℤ → Point
at x y = record { x = x; y = y }

-- f1 at POINT (0 0)
one_point : feature_bytes
    (record { id = codes "f1"; values = value.Geo (geo.Point (at (pos 0) (pos 0))) ∷ [] })
    ≡ 0 ∷ 2 ∷ 0x66 ∷ 0x31 ∷ 1 ∷ 1 ∷ 0 ∷ 0 ∷ 0 ∷ 0 ∷ 0 ∷ 0 ∷ 0 ∷ 0 ∷ []
one_point = refl

-- no value, a text of two bytes, -1 in four bytes, 2^40 in eight, both truths, a millisecond before
-- 1970
plain_values : feature_bytes
    (record {
      id = codes "a";
      values = value.Null ∷ value.Text (codes "hi") ∷ value.Integer (negsuc 0)
          ∷ value.Long (pos 1099511627776) ∷ value.Boolean true ∷ value.Boolean false
          ∷ value.Date (negsuc 0) ∷ [];
    })
    ≡ 0 ∷ 1 ∷ 0x61 ∷ 0
    ∷ 1 ∷ 0 ∷ 0 ∷ 0 ∷ 2 ∷ 0x68 ∷ 0x69
    ∷ 1 ∷ 0xff ∷ 0xff ∷ 0xff ∷ 0xff
    ∷ 1 ∷ 0 ∷ 0 ∷ 1 ∷ 0 ∷ 0 ∷ 0 ∷ 0 ∷ 0
    ∷ 1 ∷ 1 ∷ 1 ∷ 0
    ∷ 1 ∷ 0xff ∷ 0xff ∷ 0xff ∷ 0xff ∷ 0xff ∷ 0xff ∷ 0xff ∷ 0xff ∷ []
plain_values = refl

-- a line from (1, -1) to (256, 0), in units of 10^-7 degree
one_line : value_bytes (value.Geo (geo.Line (at (pos 1) (negsuc 0) ∷ at (pos 256) (pos 0) ∷ [])))
    ≡ 1 ∷ 2 ∷ 0 ∷ 0 ∷ 0 ∷ 2 ∷ 0 ∷ 0 ∷ 0 ∷ 1 ∷ 0xff ∷ 0xff ∷ 0xff ∷ 0xff ∷ 0 ∷ 0 ∷ 1 ∷ 0 ∷ 0
    ∷ 0 ∷ 0 ∷ 0 ∷ []
one_line = refl

-- one polygon of one ring without points: the kind and three counts
empty_ring : value_bytes (value.Geo (geo.ManyAreas ((([] ∷ []) ∷ []))))
    ≡ 1 ∷ 6 ∷ 0 ∷ 0 ∷ 0 ∷ 1 ∷ 0 ∷ 0 ∷ 0 ∷ 1 ∷ 0 ∷ 0 ∷ 0 ∷ 0 ∷ []
empty_ring = refl
