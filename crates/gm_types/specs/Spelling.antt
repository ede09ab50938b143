-- How specifications are spelled: the parts laid end to end.
use Rattle.std.specs.Prelude.{◌≡◌, ℕ, zero, suc, ◌+◌, Bool, true, false, not, ◌&&◌, ◌||◌, ◌==◌}
use Rattle.std.specs.Prelude.{List, [], ◌∷◌, ◌++◌, map, Option, Some, None}
use Rattle.std.specs.List.{list_all, join_with_byte}
use Rattle.gm_base.specs.Ascii.{colon, comma, equals_sign, semicolon, single_quote, star, is_blank}
use Rattle.gm_types.specs.declared.attribute.Attribute.{Attribute}
use Rattle.gm_types.specs.declared.attribute.AttributeOption.{AttributeOption}
use Rattle.gm_types.specs.declared.datum.Datum.{Datum}
use Rattle.gm_types.specs.FeatureType.{IsValid}
use Rattle.gm_types.specs.Kind.{kind_name}
use Rattle.gm_types.specs.Reader.{geometry_place, stars_fit}
use Rattle.gm_types.specs.Specification.{Specification}
use Rattle.gm_types.specs.Words.{is_bare, is_bare_form}

-- `key=value`
abbrev pub pair_text : AttributeOption → List ℕ
pair_text option = option.key ++ (equals_sign ∷ option.value)

abbrev pub options_text : List AttributeOption → List ℕ
options_text [] = []
options_text (option ∷ options) = (colon ∷ pair_text option) ++ options_text options

-- `name:type`, and `:key=value` for each option
abbrev pub attribute_text : Attribute → List ℕ
attribute_text attribute =
    attribute.name ++ ((colon ∷ kind_name attribute.kind) ++ options_text attribute.options)

abbrev pub star_text : Bool → List ℕ
star_text true = star ∷ []
star_text false = []

abbrev pub starred_text : Bool → Attribute → List ℕ
starred_text star attribute = star_text star ++ attribute_text attribute

abbrev pub quoted_text : List ℕ → List ℕ
quoted_text value = single_quote ∷ (value ++ single_quote ∷ [])

abbrev pub value_text : Bool → List ℕ → List ℕ
value_text true value = quoted_text value
value_text false value = value

abbrev pub datum_text : Bool → Datum → List ℕ
datum_text quoted datum = datum.key ++ (equals_sign ∷ value_text quoted datum.value)

-- an attribute as it is written, with blanks round it and a star or none
pub record WrittenAttribute : Type 0 where
  pub before : List ℕ
  pub star : Bool
  pub attribute : Attribute
  pub after : List ℕ

abbrev pub written_attribute : WrittenAttribute → List ℕ
written_attribute w = w.before ++ (starred_text w.star w.attribute ++ w.after)

-- a user datum as it is written, with blanks round it and its value in quotes or bare
pub record WrittenDatum : Type 0 where
  pub before : List ℕ
  pub quoted : Bool
  pub datum : Datum
  pub after : List ℕ

abbrev pub written_datum : WrittenDatum → List ℕ
written_datum w = w.before ++ (datum_text w.quoted w.datum ++ w.after)

-- the attributes with commas between them, and `;` and the user data with commas between them, if
-- there are any
abbrev pub data_part : List (List ℕ) → List ℕ
data_part [] = []
data_part (text ∷ texts) = semicolon ∷ join_with_byte comma (text ∷ texts)

abbrev pub written : List WrittenAttribute → List WrittenDatum → List ℕ
written attributes given =
    join_with_byte comma (map written_attribute attributes) ++ data_part (map written_datum given)

-- blanks alone stand round an attribute or a datum, and a value without quotes needs none
abbrev pub has_blanks : WrittenAttribute → Bool
has_blanks w = list_all is_blank w.before && list_all is_blank w.after

abbrev pub may_be_written : WrittenDatum → Bool
may_be_written w =
    (list_all is_blank w.before && list_all is_blank w.after) && (w.quoted || is_bare w.datum.value)

-- the text spells the specification: at most one attribute has a star, and it is a geometry and the
-- default geometry; where none has one, the first geometry is
pub record Spells (text : List ℕ) (t : Specification) : Type 0 where
  pub attributes : List WrittenAttribute
  pub given : List WrittenDatum
  pub text_is : text ≡ written attributes given
  pub attributes_are : t.attributes ≡ map (λ w. w.attribute) attributes
  pub data_are : t.data ≡ map (λ w. w.datum) given
  pub blanks : list_all has_blanks attributes ≡ true
  pub quotes : list_all may_be_written given ≡ true
  pub stars : stars_fit (map (λ w. w.star) attributes) t.attributes ≡ true
  pub geometry : t.geometry ≡ geometry_place (map (λ w. w.star) attributes) t.attributes
  pub valid : IsValid t

-- the canonical text: a star before the default geometry alone, no blanks, and quotes where they
-- are needed
abbrev pub is_place : Option ℕ → ℕ → Bool
is_place None attribute = false
is_place (Some p) attribute = p == attribute

abbrev pub plainly : Bool → Attribute → WrittenAttribute
plainly star a = record { before = []; star = star; attribute = a; after = [] }

abbrev pub canonical_attributes : Option ℕ → ℕ → List Attribute → List WrittenAttribute
canonical_attributes geometry attribute [] = []
canonical_attributes geometry attribute (a ∷ rest) =
    plainly (is_place geometry attribute) a ∷ canonical_attributes geometry (attribute + 1) rest

abbrev pub needs_quotes : List ℕ → Bool
needs_quotes value = not (is_bare_form value)

abbrev pub canonical_datum : Datum → WrittenDatum
canonical_datum d = record { before = []; quoted = needs_quotes d.value; datum = d; after = [] }

unfoldable pub canonical_text : Specification → List ℕ
canonical_text t =
    written (canonical_attributes t.geometry 0 t.attributes) (map canonical_datum t.data)

-- texts with commas before all but the first
abbrev pub comma_before : ℕ → List ℕ
comma_before zero = []
comma_before (suc before) = comma ∷ []

abbrev pub separated : ℕ → List (List ℕ) → List ℕ
separated before [] = []
separated before (text ∷ texts) = comma_before before ++ (text ++ separated (suc before) texts)
