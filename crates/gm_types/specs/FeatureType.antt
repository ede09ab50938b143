-- What every feature type is: its specification breaks no rule, and has no more attributes than a
-- type may have.
use Rattle.std.specs.Prelude.{◌≡◌, ℕ, ◌<◌, ◌≤◌, Bool, true, false, not, ◌&&◌, ◌||◌, List}
use Rattle.std.specs.Prelude.{length, codes, slice_get, Option, Some, None, is_some, option_map}
use Rattle.std.specs.Prelude.{option_and_then}
use Rattle.std.specs.List.{list_all, list_any}
use Rattle.gm_types.specs.Specification.{most_attributes, number_limit}
use Rattle.gm_types.specs.declared.attribute.Attribute.{Attribute}
use Rattle.gm_types.specs.declared.index.IndexKind.TheVariants.{Z2, Z3, Xz2, Xz3, Attr}
use Rattle.gm_types.specs.declared.kind.GeoKind.TheVariants.{Point}
use Rattle.gm_types.specs.declared.kind.Kind.{Kind}
use Rattle.gm_types.specs.declared.kind.Kind.TheVariants.{Date, Geo}
use Rattle.gm_types.specs.Attribute.{is_described, is_indexed, is_high}
use Rattle.gm_types.specs.Datum.{is_datum, datum_keys}
use Rattle.gm_types.specs.Index.{fits_index, has_index, listed_of, members_of, is_indexed_one}
use Rattle.gm_types.specs.Index.{is_other_shape}
use Rattle.gm_types.specs.Kind.{is_date, is_geometry}
use Rattle.gm_types.specs.Specification.{Specification, names_of, kind_at, default_geometry_of}
use Rattle.gm_types.specs.Specification.{default_shape_of, default_date_of, place_of_name}
use Rattle.gm_types.specs.Specification.{setting_of, period_from, number_that, is_shard_count}
use Rattle.gm_types.specs.Specification.{is_precision, is_z2_width, is_z3_width}
use Rattle.gm_types.specs.Words.{same_text, is_name, are_distinct}

abbrev pub same_bool : Bool → Bool → Bool
same_bool true b = b
same_bool false b = not b

-- an attribute as its name, kind and options make it
abbrev pub is_attribute : Attribute → Bool
is_attribute a =
    is_described a.name a.kind a.options
    && (same_bool a.indexed (is_indexed a.kind a.options) && same_bool a.high (is_high a.options))

abbrev pub is_geometry_kind : Option Kind → Bool
is_geometry_kind None = false
is_geometry_kind (Some kind) = is_geometry kind

abbrev pub is_date_kind : Option Kind → Bool
is_date_kind None = false
is_date_kind (Some kind) = is_date kind

-- the place of a geometry, or none where there is no geometry
abbrev pub is_default_geometry : Specification → Option ℕ → Bool
is_default_geometry t None = not (list_any (λ a. is_geometry a.kind) t.attributes)
is_default_geometry t (Some attribute) = is_geometry_kind (kind_at t attribute)

abbrev pub is_read : {A : Type 0} → (List ℕ → Option A) → Option (List ℕ) → Bool
is_read reading None = true
is_read reading (Some value) = is_some (reading value)

abbrev pub is_met : (List ℕ → Bool) → Option (List ℕ) → Bool
is_met test None = true
is_met test (Some value) = test value

-- the name of a Date attribute
abbrev pub is_date_name : Specification → List ℕ → Bool
is_date_name t name = is_date_kind (option_and_then (kind_at t) (place_of_name t name))

-- a word for an index that fits
abbrev pub is_index_word : Specification → List ℕ → Bool
is_index_word t word =
    same_text word (codes "id")
    || (same_text word (codes "z2") && fits_index t Z2)
    || (same_text word (codes "z3") && fits_index t Z3)
    || (same_text word (codes "xz2") && fits_index t Xz2)
    || (same_text word (codes "xz3") && fits_index t Xz3)
    || (same_text word (codes "attr") && list_any (λ a. a.indexed) t.attributes)

abbrev pub are_index_words : Specification → List ℕ → Bool
are_index_words t value = list_all (is_index_word t) (members_of value)

-- each listed key of user data, where it is given, has a listed value
abbrev pub has_widths : Specification → Bool
has_widths t =
    is_read (number_that is_z2_width) (setting_of t (codes "gm.z2.bits"))
    && is_read (number_that is_z3_width) (setting_of t (codes "gm.z3.bits"))

abbrev pub has_trees : Specification → Bool
has_trees t =
    is_read (number_that is_shard_count) (setting_of t (codes "geomesa.z.splits"))
    && is_read (number_that is_precision) (setting_of t (codes "geomesa.xz.precision"))

abbrev pub has_size_settings : Specification → Bool
has_size_settings t = has_trees t && has_widths t

abbrev pub has_time_settings : Specification → Bool
has_time_settings t =
    is_read period_from (setting_of t (codes "geomesa.z3.interval"))
    && is_met (is_date_name t) (setting_of t (codes "geomesa.index.dtg"))

abbrev pub has_settings : Specification → Bool
has_settings t =
    has_time_settings t && (has_size_settings t && is_met (are_index_words t) (listed_of t))

-- attributes and user data as they are read, and the place of the default geometry
pub record IsOutline (t : Specification) : Type 0 where
  pub some : 0 < length t.attributes
  pub attributes : list_all is_attribute t.attributes ≡ true
  pub geometry : is_default_geometry t t.geometry ≡ true
  pub «data» : list_all is_datum t.data ≡ true

-- the specification breaks no rule
pub record IsValid (t : Specification) : Type 0 where
  pub some : 0 < length t.attributes
  pub attributes : list_all is_attribute t.attributes ≡ true
  pub names : are_distinct (names_of t) ≡ true
  pub geometry : is_default_geometry t t.geometry ≡ true
  pub «data» : list_all is_datum t.data ≡ true
  pub keys : are_distinct (datum_keys t.data) ≡ true
  pub settings : has_settings t ≡ true

-- the specification that is read of a text, for a name and a number
pub record IsReadType (name : List ℕ) (type_number : ℕ) (t : Specification) : Type 0 where
  pub name_is : t.name ≡ name
  pub number_is : t.number ≡ type_number
  pub valid : IsValid t

pub record IsType (t : Specification) : Type 0 where
  pub named : is_name t.name ≡ true
  pub numbered : t.number < number_limit
  pub few : length t.attributes ≤ most_attributes
  pub valid : IsValid t

-- the place of a default geometry is that of an attribute that holds geometries, those of the
-- default shape
pub record IsGeometryAt (t : Specification) (attribute : ℕ) : Type 0 where
  pub within : attribute < length t.attributes
  pub shaped : is_some (default_shape_of t) ≡ true
  pub kind : kind_at t attribute ≡ option_map Geo (default_shape_of t)

-- the place of a default date is that of a Date
pub record IsDateAt (t : Specification) (attribute : ℕ) : Type 0 where
  pub within : attribute < length t.attributes
  pub kind : kind_at t attribute ≡ Some Date

-- the attribute in that place is indexed, and holds no geometries
pub record IsIndexedAt (t : Specification) (attribute : ℕ) : Type 0 where
  pub within : attribute < length t.attributes
  pub indexed : is_indexed_one (slice_get t.attributes attribute) ≡ true
  pub no_geometry : is_geometry_kind (kind_at t attribute) ≡ false

-- what a type's indexes rest on is there
pub record HoldsTogether (t : Specification) : Type 0 where
  pub geometry : (attribute : ℕ) → default_geometry_of t ≡ Some attribute → IsGeometryAt t attribute
  pub date : (attribute : ℕ) → default_date_of t ≡ Some attribute → IsDateAt t attribute
  pub z2 : has_index t Z2 ≡ true → default_shape_of t ≡ Some Point
  pub z3 : has_index t Z3 ≡ true
      → (default_shape_of t ≡ Some Point) × (is_some (default_date_of t) ≡ true)
  pub xz2 : has_index t Xz2 ≡ true → is_other_shape (default_shape_of t) ≡ true
  pub xz3 : has_index t Xz3 ≡ true
      → (is_other_shape (default_shape_of t) ≡ true) × (is_some (default_date_of t) ≡ true)
  pub by_attribute : (attribute : ℕ) → has_index t (Attr attribute) ≡ true → IsIndexedAt t attribute
