-- Which specification a text is read as, in cuts: at `;`, at commas, at colons and at `=`.
use Rattle.std.specs.Prelude.{◌≡◌, ℕ, ◌<◌, ◌≤◌, ◌-◌, Bool, true, false, ◌&&◌, ◌==◌, nat_le}
use Rattle.std.specs.Prelude.{if◌then◌else◌, List, [], ◌∷◌, length, take, map, position, count_by}
use Rattle.std.specs.Prelude.{slice_get, slice_index_or, Option, Some, None, Result, Ok, Err}
use Rattle.std.specs.Prelude.{option_map, codes}
use Rattle.gm_types.specs.Specification.{most_attributes}
use Rattle.gm_base.specs.Ascii.{colon, comma, equals_sign, semicolon, single_quote, star}
use Rattle.gm_types.specs.declared.attribute.Attribute.{Attribute}
use Rattle.gm_types.specs.declared.attribute.AttributeOption.{AttributeOption}
use Rattle.gm_types.specs.declared.datum.Datum.{Datum}
use Rattle.gm_types.specs.declared.fault.SpecFault.{SpecFault}
use Rattle.gm_types.specs.declared.fault.SpecFault.TheVariants as fault
use Rattle.gm_types.specs.declared.kind.GeoKind.{GeoKind}
use Rattle.gm_types.specs.declared.kind.GeoKind.TheVariants as shape
use Rattle.gm_types.specs.declared.kind.Kind.{Kind}
use Rattle.gm_types.specs.declared.kind.Kind.TheVariants.{Text, Integer, Long, Boolean, Date, Geo}
use Rattle.gm_types.specs.Attribute.{attribute_from, is_option, option_keys}
use Rattle.gm_types.specs.Datum.{datum_keys}
use Rattle.gm_types.specs.FeatureType.{has_settings, is_geometry_kind}
use Rattle.gm_types.specs.Kind.{is_geometry}
use Rattle.gm_types.specs.Parts.{parts_of, cut_once, trimmed}
use Rattle.gm_types.specs.Specification.{Specification, names_of}
use Rattle.gm_types.specs.Words.{same_text, is_name, is_key, is_bare, is_quotable, are_distinct}

abbrev pub read_before : {A : Type 0} → Option A → Option (List A) → Option (List A)
read_before (Some x) (Some xs) = Some (x ∷ xs)
read_before (Some x) None = None
read_before None xs = None

-- each text is read, or all fail
abbrev pub read_all : {A : Type 0} → (List ℕ → Option A) → List (List ℕ) → Option (List A)
read_all read [] = Some []
read_all read (text ∷ texts) = read_before (read text) (read_all read texts)

-- the kind with that name
unfoldable pub shape_named : List ℕ → Option GeoKind
shape_named text =
    if same_text text (codes "Point") then Some shape.Point
    else if same_text text (codes "LineString") then Some shape.LineString
    else if same_text text (codes "Polygon") then Some shape.Polygon
    else if same_text text (codes "MultiPoint") then Some shape.MultiPoint
    else if same_text text (codes "MultiLineString") then Some shape.MultiLineString
    else if same_text text (codes "MultiPolygon") then Some shape.MultiPolygon
    else if same_text text (codes "Geometry") then Some shape.Any
    else None

unfoldable pub kind_named : List ℕ → Option Kind
kind_named text =
    if same_text text (codes "String") then Some Text
    else if same_text text (codes "Integer") then Some Integer
    else if same_text text (codes "Long") then Some Long
    else if same_text text (codes "Boolean") then Some Boolean
    else if same_text text (codes "Date") then Some Date
    else option_map (λ g. Geo g) (shape_named text)

abbrev pub option_pair : List ℕ → List ℕ → AttributeOption
option_pair key value = record { key = key; value = value }

-- an option that an attribute of that kind may have
abbrev pub option_if : Bool → List ℕ → List ℕ → Option AttributeOption
option_if ok key value = if ok then Some (option_pair key value) else None

abbrev pub option_with : Kind → List ℕ → List ℕ → Option AttributeOption
option_with kind key value = option_if (is_option kind (option_pair key value)) key value

abbrev pub option_from : Kind → Option (List ℕ × List ℕ) → Option AttributeOption
option_from kind None = None
option_from kind (Some cut) = option_with kind cut.0 cut.1

-- `key=value`
unfoldable pub option_of : Kind → List ℕ → Option AttributeOption
option_of kind text = option_from kind (cut_once equals_sign text)

-- the options behind the type: none, or one behind each colon
abbrev pub options_of : Kind → Option (List ℕ) → Option (List AttributeOption)
options_of kind None = Some []
options_of kind (Some text) = read_all (option_of kind) (parts_of colon text)

abbrev pub attribute_if : Bool → List ℕ → Kind → List AttributeOption → Option Attribute
attribute_if ok name kind options = if ok then Some (attribute_from name kind options) else None

abbrev pub attribute_with : List ℕ → Kind → Option (List AttributeOption) → Option Attribute
attribute_with name kind None = None
attribute_with name kind (Some options) =
    attribute_if (is_name name && are_distinct (option_keys options)) name kind options

abbrev pub attribute_typed : List ℕ → Option Kind → Option (List ℕ) → Option Attribute
attribute_typed name None options = None
attribute_typed name (Some kind) options = attribute_with name kind (options_of kind options)

-- what stands before the first colon, and behind it
abbrev pub front_of : List ℕ → Option (List ℕ × List ℕ) → List ℕ
front_of text None = text
front_of text (Some cut) = cut.0

abbrev pub behind_of : Option (List ℕ × List ℕ) → Option (List ℕ)
behind_of None = None
behind_of (Some cut) = Some cut.1

abbrev pub attribute_behind : List ℕ → Option (List ℕ) → Option Attribute
attribute_behind name None = None
attribute_behind name (Some text) =
    attribute_typed name (kind_named (front_of text (cut_once colon text)))
    (behind_of (cut_once colon text))

-- `name:type` and the options
abbrev pub attribute_in : List ℕ → Option Attribute
attribute_in text =
    attribute_behind (front_of text (cut_once colon text)) (behind_of (cut_once colon text))

abbrev pub begins_with_star : List ℕ → Bool
begins_with_star [] = false
begins_with_star (byte ∷ bytes) = byte == star

abbrev pub without_star : List ℕ → List ℕ
without_star [] = []
without_star (byte ∷ bytes) = if byte == star then bytes else byte ∷ bytes

-- an attribute between two commas, and whether it has a star
unfoldable pub attribute_of : List ℕ → Option Attribute
attribute_of part = attribute_in (without_star (trimmed part))

unfoldable pub is_starred : List ℕ → Bool
is_starred part = begins_with_star (trimmed part)

abbrev pub value_if : Bool → List ℕ → Option (List ℕ)
value_if ok value = if ok then Some value else None

-- what stands behind the first quote: a value without quotes inside, and the last quote
abbrev pub quoted_value : List ℕ → Option (List ℕ)
quoted_value rest =
    let len = length rest - 1 in
    value_if (slice_index_or rest len 0 == single_quote && is_quotable (take len rest))
    (take len rest)

-- the value of a datum, bare or in quotes
unfoldable pub value_of : List ℕ → Option (List ℕ)
value_of [] = None
value_of (byte ∷ bytes) =
    if byte == single_quote then quoted_value bytes
    else value_if (is_bare (byte ∷ bytes)) (byte ∷ bytes)

abbrev pub datum_if : Bool → List ℕ → List ℕ → Option Datum
datum_if ok key value = if ok then Some record { key = key; value = value } else None

abbrev pub datum_with : List ℕ → Option (List ℕ) → Option Datum
datum_with key None = None
datum_with key (Some value) = datum_if (is_key key) key value

abbrev pub datum_from : Option (List ℕ × List ℕ) → Option Datum
datum_from None = None
datum_from (Some cut) = datum_with cut.0 (value_of cut.1)

-- a datum between two commas: `key=value`
unfoldable pub datum_of : List ℕ → Option Datum
datum_of part = datum_from (cut_once equals_sign (trimmed part))

-- the attributes and the user data, by commas
abbrev pub attributes_of : List ℕ → Option (List Attribute)
attributes_of text = read_all attribute_of (parts_of comma text)

abbrev pub stars_of : List ℕ → List Bool
stars_of text = map is_starred (parts_of comma text)

abbrev pub data_of : Option (List ℕ) → Option (List Datum)
data_of None = Some []
data_of (Some text) = read_all datum_of (parts_of comma text)

-- the place of the star, else that of the first geometry
abbrev pub place_or : Option ℕ → Option ℕ → Option ℕ
place_or (Some attribute) other = Some attribute
place_or None other = other

abbrev pub is_set : Bool → Bool
is_set star = star

abbrev pub geometry_place : List Bool → List Attribute → Option ℕ
geometry_place stars attributes =
    place_or (position is_set stars) (position (λ attribute. is_geometry attribute.kind) attributes)

abbrev pub stands_on_geometry : List Attribute → Option ℕ → Bool
stands_on_geometry attributes None = true
stands_on_geometry attributes (Some index) =
    is_geometry_kind (option_map (λ attribute. attribute.kind) (slice_get attributes index))

-- at most one star, and it stands on a geometry
abbrev pub stars_fit : List Bool → List Attribute → Bool
stars_fit stars attributes =
    nat_le (count_by is_set stars) 1 && stands_on_geometry attributes (position is_set stars)

-- the specification of these attributes and data
abbrev pub specification_from : List ℕ → ℕ → List Bool → List Attribute → List Datum → Specification
specification_from name type_number stars attributes given =
    record {
      name = name;
      number = type_number;
      attributes = attributes;
      «data» = given;
      geometry = geometry_place stars attributes;
    }

abbrev pub specification_if : Bool → Specification → Option Specification
specification_if ok t = if ok then Some t else None

abbrev pub outline_with : List ℕ → ℕ → List Bool → Option (List Attribute) → Option (List Datum)
    → Option Specification
outline_with name type_number stars None given = None
outline_with name type_number stars (Some attributes) None = None
outline_with name type_number stars (Some attributes) (Some given) =
    specification_if (stars_fit stars attributes)
    (specification_from name type_number stars attributes given)

-- the attributes before the first `;`, and the user data behind it
unfoldable pub outline_of : List ℕ → ℕ → List ℕ → Option Specification
outline_of name type_number text =
    let attributes = front_of text (cut_once semicolon text) in
    outline_with name type_number (stars_of attributes) (attributes_of attributes)
    (data_of (behind_of (cut_once semicolon text)))

-- names and keys stand once each, and the listed keys have listed values
abbrev pub is_consistent : Specification → Bool
is_consistent t = are_distinct (names_of t) && (are_distinct (datum_keys t.data) && has_settings t)

abbrev pub consistent_only : Option Specification → Option Specification
consistent_only None = None
consistent_only (Some t) = specification_if (is_consistent t) t

-- the specification that a text is read as, however many attributes it has
abbrev pub specification_of : List ℕ → ℕ → List ℕ → Option Specification
specification_of name type_number text = consistent_only (outline_of name type_number text)

-- what reading a specification answers
abbrev pub IsReadAs : Option Specification → Result Specification SpecFault → Type 0
IsReadAs wanted (Ok t) = (wanted ≡ Some t) × (length t.attributes ≤ most_attributes)
IsReadAs wanted (Err fault.Spec) = wanted ≡ None
IsReadAs wanted (Err fault.TooMany) =
    (t : Specification) × (wanted ≡ Some t) × (most_attributes < length t.attributes)
IsReadAs wanted (Err fault.NoMemory) = Unit {0}
