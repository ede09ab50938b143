-- What a feature type is: its specification, and what follows from it.
use Rattle.std.specs.Prelude.{ℕ, Bool, false, not, ◌&&◌, ◌||◌, ◌==◌, nat_le}
use Rattle.std.specs.Prelude.{if◌then◌else◌, List, [], ◌∷◌, length, map, fold, codes, position}
use Rattle.std.specs.Prelude.{◌^◌, slice_get, Option, Some, None, option_and_then, unwrap_or}
use Rattle.std.specs.List.{list_all}
use Rattle.std.specs.Char.{is_ascii_digit}
use Rattle.gm_base.specs.Ascii.{next_digit, digit_zero}
use Rattle.gm_calendar.specs.declared.period.Period.{Period}
use Rattle.gm_calendar.specs.declared.period.Period.TheVariants.{Day, Week, Month, Year}
use Rattle.gm_types.specs.declared.attribute.Attribute.{Attribute}
use Rattle.gm_types.specs.declared.datum.Datum.{Datum}
use Rattle.gm_types.specs.declared.kind.GeoKind.{GeoKind}
use Rattle.gm_types.specs.declared.kind.Kind.{Kind}
use Rattle.gm_types.specs.Datum.{datum_value}
use Rattle.gm_types.specs.Kind.{is_date, shape_of}
use Rattle.gm_types.specs.Words.{same_text}

-- the type's name and number, its attributes and user data in order, and the place of its default
-- geometry:
-- the attribute with `*`, else the first geometry
pub record Specification : Type 0 where
  pub name : List ℕ
  pub number : ℕ
  pub attributes : List Attribute
  pub «data» : List Datum
  pub geometry : Option ℕ

abbrev pub names_of : Specification → List (List ℕ)
names_of t = map (λ attribute. attribute.name) t.attributes

abbrev pub kinds_of : Specification → List Kind
kinds_of t = map (λ attribute. attribute.kind) t.attributes

-- the place of the attribute with that name
unfoldable pub place_of_name : Specification → List ℕ → Option ℕ
place_of_name t name = position (λ attribute. same_text attribute.name name) t.attributes

-- the value that is given to a key of user data
abbrev pub setting_of : Specification → List ℕ → Option (List ℕ)
setting_of t key = datum_value key t.data

abbrev pub default_geometry_of : Specification → Option ℕ
default_geometry_of t = t.geometry

-- the kind of the attribute in that place
abbrev pub kind_at : Specification → ℕ → Option Kind
kind_at t attribute = slice_get (kinds_of t) attribute

-- the geometries that the default geometry holds, if there is one
abbrev pub default_shape_of : Specification → Option GeoKind
default_shape_of t = option_and_then shape_of (option_and_then (kind_at t) t.geometry)

abbrev pub date_named : Specification → Option (List ℕ) → Option ℕ
date_named t None = position (λ attribute. is_date attribute.kind) t.attributes
date_named t (Some name) = place_of_name t name

-- the place of the attribute that `geomesa.index.dtg` names, else of the first Date
unfoldable pub default_date_of : Specification → Option ℕ
default_date_of t = date_named t (setting_of t (codes "geomesa.index.dtg"))

-- the number that decimal digits without a leading zero write
abbrev pub has_no_leading_zero : List ℕ → Bool
has_no_leading_zero [] = false
has_no_leading_zero (first ∷ rest) = not (first == digit_zero) || (length rest == 0)

abbrev pub number_of : List ℕ → Option ℕ
number_of bytes =
    if has_no_leading_zero bytes && list_all is_ascii_digit bytes
    then Some (fold next_digit 0 bytes) else None

-- the number that a text writes, where it passes a test
abbrev pub number_that : (ℕ → Bool) → List ℕ → Option ℕ
number_that test bytes = option_and_then (λ n. if test n then Some n else None) (number_of bytes)

abbrev pub is_period_name : Period → List ℕ → Bool
is_period_name Day text = same_text text (codes "day")
is_period_name Week text = same_text text (codes "week")
is_period_name Month text = same_text text (codes "month")
is_period_name Year text = same_text text (codes "year")

-- the listed values
unfoldable pub period_from : List ℕ → Option Period
period_from text =
    if is_period_name Day text then Some Day
    else if is_period_name Week text then Some Week
    else if is_period_name Month text then Some Month
    else if is_period_name Year text then Some Year
    else None

-- the numbers of types are below
abbrev pub number_limit : ℕ
number_limit = 2 ^ 16

-- the most attributes of a type
abbrev pub most_attributes : ℕ
most_attributes = 64

abbrev pub most_shards : ℕ
most_shards = 127

abbrev pub is_shard_count : ℕ → Bool
is_shard_count n = nat_le 1 n && nat_le n most_shards

abbrev pub is_precision : ℕ → Bool
is_precision n = n == 4 || n == 8 || n == 12 || n == 16

abbrev pub is_z2_width : ℕ → Bool
is_z2_width n = n == 8 || n == 16 || n == 24 || n == 31

abbrev pub is_z3_width : ℕ → Bool
is_z3_width n = n == 8 || n == 12 || n == 16 || n == 21

-- the defaults
abbrev pub standard_shards : ℕ
standard_shards = 4

abbrev pub standard_precision : ℕ
standard_precision = 12

abbrev pub standard_z2_bits : ℕ
standard_z2_bits = 31

abbrev pub standard_z3_bits : ℕ
standard_z3_bits = 21

-- a setting: the value of its key where that is listed, else the default
abbrev pub setting_or : {A : Type 0} → (List ℕ → Option A) → Option (List ℕ) → A → A
setting_or reading value standard = unwrap_or (option_and_then reading value) standard

-- the bins of the time indexes
unfoldable pub period_of : Specification → Period
period_of t = setting_or period_from (setting_of t (codes "geomesa.z3.interval")) Week

-- how many shards the indexes over space have
unfoldable pub shards_of : Specification → ℕ
shards_of t =
    setting_or (number_that is_shard_count) (setting_of t (codes "geomesa.z.splits"))
    standard_shards

-- the levels of the trees of extents
unfoldable pub precision_of : Specification → ℕ
precision_of t =
    setting_or (number_that is_precision) (setting_of t (codes "geomesa.xz.precision"))
    standard_precision

-- the bits of a coordinate in z2 and in z3
unfoldable pub z2_bits_of : Specification → ℕ
z2_bits_of t =
    setting_or (number_that is_z2_width) (setting_of t (codes "gm.z2.bits")) standard_z2_bits

unfoldable pub z3_bits_of : Specification → ℕ
z3_bits_of t =
    setting_or (number_that is_z3_width) (setting_of t (codes "gm.z3.bits")) standard_z3_bits
