-- How fields are printed in a row.
use Rattle.std.specs.Prelude.{◌≡◌, ◌==◌, ◌||◌, Bool, true, false, ⊤, ℕ, codes, if◌then◌else◌, List}
use Rattle.std.specs.Prelude.{[], ◌∷◌, ◌++◌, map}
use Rattle.std.specs.Fmt.{signed_decimal}
use Rattle.std.specs.List.{list_any}
use Rattle.csv.specs.Reading.{is_bom}
use Rattle.gm_base.specs.Ascii.{carriage_return, comma, double_quote, line_feed}
use Rattle.gm_calendar.specs.Spelling.{instant_text}
use Rattle.gm_feature.specs.declared.feature.Feature.{Feature}
use Rattle.gm_feature.specs.declared.value.Value.{Value}
use Rattle.gm_feature.specs.declared.value.Value.TheVariants as value
use Rattle.gm_wkt.specs.Printer as wkt

-- a comma, a double quote or 0x0D
abbrev pub is_marked : ℕ → Bool
is_marked byte = (byte == comma) || (byte == double_quote) || (byte == carriage_return)

-- the bytes of U+FEFF stand first
abbrev pub begins_with_mark : List ℕ → Bool
begins_with_mark [] = false
begins_with_mark (a ∷ []) = false
begins_with_mark (a ∷ b ∷ []) = false
begins_with_mark (a ∷ b ∷ c ∷ rest) = is_bom a b c

abbrev pub has_marked : List ℕ → Bool
has_marked = list_any is_marked

abbrev pub is_quoted : List ℕ → Bool
is_quoted field = has_marked field || begins_with_mark field

-- each double quote twice
unfoldable pub doubled : List ℕ → List ℕ
doubled [] = []
doubled (byte ∷ rest) =
    if byte == double_quote then byte ∷ byte ∷ doubled rest else byte ∷ doubled rest

abbrev pub printed : List ℕ → List ℕ
printed field =
    if is_quoted field then double_quote ∷ (doubled field ++ (double_quote ∷ [])) else field

-- further fields, a comma before each
unfoldable pub further : List (List ℕ) → List ℕ
further [] = []
further (field ∷ fields) = comma ∷ (printed field ++ further fields)

-- the text of a record of a first field and further ones
abbrev pub record_text : List ℕ → List (List ℕ) → List ℕ
record_text first fields = printed first ++ further fields

abbrev pub truth_text : Bool → List ℕ
truth_text true = codes "true"
truth_text false = codes "false"

-- a value's field
abbrev pub field_of : Value → List ℕ
field_of value.Null = []
field_of (value.Text text) = text
field_of (value.Integer whole) = signed_decimal whole
field_of (value.Long whole) = signed_decimal whole
field_of (value.Boolean truth) = truth_text truth
field_of (value.Date at) = instant_text at
field_of (value.Geo geometry) = wkt.printed geometry

abbrev pub row_text : Feature → List ℕ
row_text feature = record_text feature.id (map field_of feature.values)

-- a byte is 0x0A
abbrev pub has_line_feed : List ℕ → Bool
has_line_feed = list_any (λ byte. byte == line_feed)

abbrev pub HaveNoLineFeed : List (List ℕ) → Type 0
HaveNoLineFeed [] = ⊤
HaveNoLineFeed (field ∷ fields) = (has_line_feed field ≡ false) × HaveNoLineFeed fields
