-- The printed form: one blank behind the keyword and behind each comma, and between the two numbers
-- of a point, and none elsewhere.
use Rattle.std.specs.Prelude.{◌==◌, ◌||◌, ℕ, Bool, true, false, List, [], ◌∷◌, ◌++◌, FitsSigned}
use Rattle.std.specs.Char.{is_ascii_uppercase}
use Rattle.std.specs.Int.{w32}
use Rattle.gm_geom.specs.declared.point.Point.{Point}
use Rattle.gm_geom.specs.declared.geometry.Geometry.{Geometry}
use Rattle.gm_geom.specs.declared.geometry.Geometry.TheVariants as geo
use Rattle.gm_geom.specs.Number.{fixed_text, is_number_byte}
use Rattle.gm_wkt.specs.Grammar.{keyword_text, keyword_of}
use Rattle.gm_base.specs.Ascii.{space, comma, opening, closing}

abbrev pub position_text : Point → List ℕ
position_text p = fixed_text p.x ++ (space ∷ fixed_text p.y)

-- what stands before a member
abbrev pub separator_text : Bool → List ℕ
separator_text true = []
separator_text false = comma ∷ space ∷ []

-- members with commas before each but the first
abbrev pub members_text : {A : Type 0} → (A → List ℕ) → Bool → List A → List ℕ
members_text item first [] = []
members_text item first (x ∷ xs) = separator_text first ++ (item x ++ members_text item false xs)

abbrev pub list_text : {A : Type 0} → (A → List ℕ) → List A → List ℕ
list_text item xs = opening ∷ (members_text item true xs ++ closing ∷ [])

abbrev pub line_text : List Point → List ℕ
line_text = list_text position_text

abbrev pub rings_text : List (List Point) → List ℕ
rings_text = list_text line_text

abbrev pub lone_text : Point → List ℕ
lone_text p = line_text (p ∷ [])

abbrev pub body_text : Geometry → List ℕ
body_text (geo.Point p) = lone_text p
body_text (geo.Line points) = line_text points
body_text (geo.Area rings) = rings_text rings
body_text (geo.ManyPoints points) = list_text lone_text points
body_text (geo.ManyLines lines) = rings_text lines
body_text (geo.ManyAreas areas) = list_text rings_text areas

abbrev pub printed : Geometry → List ℕ
printed g = keyword_text (keyword_of g) ++ (space ∷ body_text g)

-- coordinates that an i32 holds
pub record FitsPoint (p : Point) : Type 0 where
  pub x : FitsSigned w32 p.x
  pub y : FitsSigned w32 p.y

-- a byte that stands in printed points: one of a number, a capital letter, a bracket or a blank
abbrev pub is_point_byte : ℕ → Bool
is_point_byte byte =
    is_number_byte byte
    || (is_ascii_uppercase byte || (byte == opening || (byte == closing || byte == space)))
