-- How a row is read.
use Rattle.std.specs.Prelude.{◌≡◌, ◌^◌, ◌==◌, ◌&&◌, not, nat_le, nat_lt, Bool, true, false, ⊤, ℕ, ℤ}
use Rattle.std.specs.Prelude.{pos, negsuc, if◌then◌else◌, List, [], ◌∷◌, ◌++◌, length, map, codes}
use Rattle.std.specs.Prelude.{Option, Some, None, Result, Ok, Err}
use Rattle.std.specs.List.{list_all}
use Rattle.std.specs.Char.{to_ascii_lowercase}
use Rattle.std.specs.Cmp.Lexicographic.{pointwise}
use Rattle.std.specs.Str.{is_utf8, all_ascii_digits}
use Rattle.std.specs.Str.Parse.{without_leading_sign, signed_digits_value}
use Rattle.csv.specs.Machine.{Read, next_record}
use Rattle.csv.specs.Reading.{default_config, strip_bom}
use Rattle.csv.specs.declared.parser.State.TheVariants as state
use Rattle.gm_base.specs.Ascii.{carriage_return, comma, double_quote, line_feed}
use Rattle.gm_base.specs.Identifier.{is_identifier}
use Rattle.gm_calendar.specs.Spelling.{instant_of}
use Rattle.gm_feature.specs.declared.feature.Feature.{Feature}
use Rattle.gm_feature.specs.declared.value.Value.{Value}
use Rattle.gm_feature.specs.declared.value.Value.TheVariants as value
use Rattle.gm_feature.specs.Feature.{dates_fit}
use Rattle.gm_feature.specs.Shape.{has_shape}
use Rattle.gm_feature.specs.Value.{has_text_form}
use Rattle.gm_geom.specs.declared.geometry.Geometry.{Geometry}
use Rattle.gm_types.specs.declared.attribute.Attribute.{Attribute}
use Rattle.gm_types.specs.declared.kind.GeoKind.{GeoKind}
use Rattle.gm_types.specs.declared.kind.Kind.{Kind}
use Rattle.gm_types.specs.declared.kind.Kind.TheVariants as kind
use Rattle.gm_types.specs.Specification.{Specification, kinds_of}
use Rattle.gm_wkt.specs.declared.fault.WktFault.{WktFault}
use Rattle.gm_wkt.specs.Answer.{answer_of}
use Rattle.gm_rows.specs.Printer.{begins_with_mark}
use Rattle.gm_rows.specs.declared.fault.RowFault.{RowFault}
use Rattle.gm_rows.specs.declared.fault.RowFault.TheVariants as fault

-- the first record of a row, as `csv` reads it with default settings and no header
abbrev pub first_record : List ℕ → Option Read
first_record row = next_record default_config state.StartRecord [] [] (strip_bom row)

-- the fields of a record, where no further one follows
abbrev pub if_last : Read → Option Read → Option (List (List ℕ))
if_last read None = Some read.0
if_last read (Some further) = None

abbrev pub if_alone : Option Read → Option (List (List ℕ))
if_alone None = None
if_alone (Some read) = if_last read (next_record default_config read.1 [] [] read.2)

-- the fields of a row that is exactly one record
abbrev pub record_of : List ℕ → Option (List (List ℕ))
record_of row = if_alone (first_record row)

-- bytes that `csv` takes as they stand, but for commas: no double quote, 0x0D or 0x0A
abbrev pub is_plain_byte : ℕ → Bool
is_plain_byte byte =
    not (byte == double_quote) && (not (byte == carriage_return) && not (byte == line_feed))

-- a row that is not empty, of such bytes, with no U+FEFF at its head
abbrev pub is_plain : List ℕ → Bool
is_plain row = nat_le 1 (length row) && (not (begins_with_mark row) && list_all is_plain_byte row)

-- the fields between the commas of bytes, behind the fields and the bytes of a field so far
unfoldable pub cut_from : List (List ℕ) → List ℕ → List ℕ → List (List ℕ)
cut_from fields field [] = fields ++ field ∷ []
cut_from fields field (byte ∷ bytes) =
    if byte == comma
    then cut_from (fields ++ field ∷ []) [] bytes
    else cut_from fields (field ++ byte ∷ []) bytes

-- one digit or more, and nothing else
abbrev pub is_numeral : List ℕ → Bool
is_numeral bytes = nat_le 1 (length bytes) && all_ascii_digits bytes

-- from -2^bits to 2^bits - 1
abbrev pub is_within : ℕ → ℤ → Bool
is_within bits (pos n) = nat_lt n (2 ^ bits)
is_within bits (negsuc n) = nat_lt n (2 ^ bits)

-- an optional sign and digits, in range
abbrev pub integer_of : ℕ → List ℕ → Option ℤ
integer_of bits bytes =
    if is_numeral (without_leading_sign bytes) && is_within bits (signed_digits_value 10 bytes)
    then Some (signed_digits_value 10 bytes) else None

-- UTF-8 of 1 to 1,048,576 bytes, none of them 0x00
abbrev pub is_text : List ℕ → Bool
is_text bytes = is_utf8 bytes && has_text_form bytes

-- `true` or `false`, in any case of its letters
abbrev pub is_truth_word : List ℕ → List ℕ → Bool
is_truth_word field word = pointwise ◌==◌ (map to_ascii_lowercase field) word

abbrev pub truth_of : List ℕ → Option Bool
truth_of field =
    if is_truth_word field (codes "true") then Some true
    else if is_truth_word field (codes "false") then Some false
    else None

-- a value that is read, or the fault of a field that spells none
abbrev pub read_as : {A : Type 0} → (A → Value) → Option A → Result Value RowFault
read_as value None = Err fault.Value
read_as value (Some x) = Ok (value x)

-- a geometry of the kind that is asked for
abbrev pub shaped : GeoKind → Result Geometry WktFault → Result Value RowFault
shaped shape (Ok geometry) =
    if has_shape shape geometry then Ok (value.Geo geometry) else Err fault.Geometry
shaped shape (Err why) = Err fault.Geometry

abbrev pub text_of : List ℕ → Option (List ℕ)
text_of field = if is_text field then Some field else None

-- the value that a field that is not empty spells
abbrev pub value_of_some : Kind → List ℕ → Result Value RowFault
value_of_some kind.Text field = read_as value.Text (text_of field)
value_of_some kind.Integer field = read_as value.Integer (integer_of 31 field)
value_of_some kind.Long field = read_as value.Long (integer_of 63 field)
value_of_some kind.Boolean field = read_as value.Boolean (truth_of field)
value_of_some kind.Date field = read_as value.Date (instant_of field)
value_of_some (kind.Geo shape) field = shaped shape (answer_of field)

-- an empty field is null
abbrev pub value_of : Kind → List ℕ → Result Value RowFault
value_of k [] = Ok value.Null
value_of k (byte ∷ rest) = value_of_some k (byte ∷ rest)

-- a further value before others, if these are values
abbrev pub before : Value → Result (List Value) RowFault → Result (List Value) RowFault
before value (Ok values) = Ok (value ∷ values)
before value (Err why) = Err why

-- a fault of a geometry gives way to one of a value in another field
abbrev pub unless_other : Result (List Value) RowFault → Result (List Value) RowFault
unless_other (Ok values) = Err fault.Geometry
unless_other (Err why) = Err why

abbrev pub joined : Result Value RowFault → Result (List Value) RowFault
    → Result (List Value) RowFault
joined (Ok value) rest = before value rest
joined (Err fault.Geometry) rest = unless_other rest
joined (Err why) rest = Err why

-- the values of fields, one for each kind, or `Value` where a field has that fault, or else
-- `Geometry` where one has that
unfoldable pub values_of : List Kind → List (List ℕ) → Result (List Value) RowFault
values_of [] fields = Ok []
values_of (k ∷ kinds) [] = Err fault.Value
values_of (k ∷ kinds) (field ∷ fields) = joined (value_of k field) (values_of kinds fields)

abbrev pub attribute_kinds : List Attribute → List Kind
attribute_kinds attributes = map (λ attribute. attribute.kind) attributes

-- the feature with this first field and these values
abbrev pub feature_if : Bool → List ℕ → List Value → Result Feature RowFault
feature_if true id values =
    if is_identifier id then Ok (record { id = id; values = values }) else Err fault.Id
feature_if false id values = Err fault.Date

abbrev pub feature_from : Specification → List ℕ → Result (List Value) RowFault
    → Result Feature RowFault
feature_from t id (Err why) = Err why
feature_from t id (Ok values) = feature_if (dates_fit t values) id values

abbrev pub feature_of_record : Specification → Option (List (List ℕ)) → Result Feature RowFault
feature_of_record t None = Err fault.Count
feature_of_record t (Some []) = Err fault.Count
feature_of_record t (Some (id ∷ fields)) =
    if length fields == length (kinds_of t)
    then feature_from t id (values_of (kinds_of t) fields)
    else Err fault.Count

-- the feature that a row spells, or the first fault of Count, Value, Geometry, Date and Id
abbrev pub row_of : Specification → List ℕ → Result Feature RowFault
row_of t row = feature_of_record t (record_of row)

-- the answer is this one, unless memory ran out
abbrev pub FaultOf : {A : Type 0} → Result A RowFault → RowFault → Type 0
FaultOf wanted fault.NoMemory = ⊤
FaultOf wanted fault.Count = wanted ≡ Err fault.Count
FaultOf wanted fault.Value = wanted ≡ Err fault.Value
FaultOf wanted fault.Geometry = wanted ≡ Err fault.Geometry
FaultOf wanted fault.Date = wanted ≡ Err fault.Date
FaultOf wanted fault.Id = wanted ≡ Err fault.Id

abbrev pub Answers : {A : Type 0} → Result A RowFault → Result A RowFault → Type 0
Answers wanted (Ok x) = wanted ≡ Ok x
Answers wanted (Err why) = FaultOf wanted why
