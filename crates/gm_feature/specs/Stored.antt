-- What is stored, seen in place.
use Rattle.std.specs.Prelude.{◌≡◌, Bool, true, false, List, map, None, Some}
use Rattle.gm_geom.specs.declared.geometry.Geometry.{Geometry}
use Rattle.gm_geom.specs.declared.geometry.Geometry.TheVariants as geo
use Rattle.gm_geom.specs.Extent.{IsLeastBox, extent_of}
use Rattle.gm_geom.specs.Geometry.{points_of}
use Rattle.gm_geom.specs.Validity.{fault_of}
use Rattle.gm_feature.specs.declared.cursor.StoredValues.{StoredValues}
use Rattle.gm_feature.specs.declared.feature.Feature.{Feature}
use Rattle.gm_feature.specs.declared.stored.Stored.{Stored}
use Rattle.gm_feature.specs.declared.stored.StoredGeometry.{StoredGeometry}
use Rattle.gm_feature.specs.declared.stored.StoredValue.{StoredValue}
use Rattle.gm_feature.specs.declared.stored.StoredValue.TheVariants as stored
use Rattle.gm_feature.specs.declared.value.Value.{Value}
use Rattle.gm_feature.specs.declared.value.Value.TheVariants as value
use Rattle.gm_feature.specs.Feature.{Fits, values_fit}
use Rattle.gm_feature.specs.Writer.{values_bytes, feature_bytes, geometry_bytes}

-- the feature fits the type, and the bytes are its own
pub record IsStored (s : Stored) (f : Feature) : Type 0 where
  pub fits : Fits s.of.now f
  pub same : s.bytes.now ≡ feature_bytes f

-- the values fit the attributes, and the bytes are their own
pub record AreStored (s : StoredValues) (values : List Value) : Type 0 where
  pub fit : values_fit (map (λ attribute. attribute.kind) s.attributes.now) values ≡ true
  pub same : s.bytes.now ≡ values_bytes values

abbrev pub is_point : Geometry → Bool
is_point (geo.Point point) = true
is_point _ = false

-- the geometry is kept and no lone point, the bytes are its own, and the bounds are the least box
-- of all its points
pub record IsStoredGeometry (s : StoredGeometry) (g : Geometry) : Type 0 where
  pub kept : fault_of g ≡ None
  pub many : is_point g ≡ false
  pub same : s.bytes.now ≡ geometry_bytes g
  pub extent : extent_of (points_of g) ≡ Some s.bounds
  pub least : IsLeastBox s.bounds (points_of g)

-- what is seen in place is the value, and a point is kept
abbrev pub Says : StoredValue → Value → Type 0
Says stored.Null v = v ≡ value.Null
Says (stored.Text bytes) v = v ≡ value.Text bytes.now
Says (stored.Integer z) v = v ≡ value.Integer z
Says (stored.Long z) v = v ≡ value.Long z
Says (stored.Boolean b) v = v ≡ value.Boolean b
Says (stored.Date at) v = v ≡ value.Date at
Says (stored.Point point) v =
    (fault_of (geo.Point point) ≡ None) × (v ≡ value.Geo (geo.Point point))
Says (stored.Geometry s) v = (g : Geometry) × IsStoredGeometry s g × (v ≡ value.Geo g)
