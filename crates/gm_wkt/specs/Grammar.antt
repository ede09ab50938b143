-- Well-Known Text: which bytes spell which geometry.
use Rattle.std.specs.Prelude.{◌≡◌, ◌<◌, ◌⊎◌, ℕ, true, ℤ, pos, List, [], ◌∷◌, ◌++◌}
use Rattle.std.specs.Prelude.{length, map, codes, Option, Some, None, Result, Ok, Err}
use Rattle.std.specs.List.{list_all}
use Rattle.std.specs.Char.{to_ascii_lowercase}
use Rattle.gm_base.specs.Ascii.{opening, closing, comma, is_blank}
use Rattle.gm_geom.specs.declared.point.Point.{Point}
use Rattle.gm_geom.specs.declared.geometry.Geometry.{Geometry}
use Rattle.gm_geom.specs.declared.geometry.Geometry.TheVariants as geo
use Rattle.gm_geom.specs.declared.number.NumberFault.{NumberFault}
use Rattle.gm_geom.specs.declared.number.NumberFault.TheVariants.{Form, Big}
use Rattle.gm_wkt.specs.declared.keyword.Keyword.{Keyword}
use Rattle.gm_wkt.specs.declared.keyword.Keyword.TheVariants as keyword
use Rattle.gm_geom.specs.Number.{fixed_of, is_number_byte}

abbrev pub AreBlanks : List ℕ → Type 0
AreBlanks bytes = list_all is_blank bytes ≡ true

-- the fixed number that a number stands for. One that is too big stands for the greatest i32,
-- which is outside the world as well.
abbrev pub outside : ℤ
outside = pos 2147483647

abbrev pub coordinate_from : Result ℤ NumberFault → Option ℤ
coordinate_from (Ok z) = Some z
coordinate_from (Err Form) = None
coordinate_from (Err Big) = Some outside

abbrev pub coordinate_of : List ℕ → Option ℤ
coordinate_of bytes = coordinate_from (fixed_of bytes)

pub record SpellsNumber (bytes : List ℕ) (z : ℤ) : Type 0 where
  pub bytes_of : list_all is_number_byte bytes ≡ true
  pub value : coordinate_of bytes ≡ Some z

-- two numbers with at least one blank between them
pub record SpellsPosition (bytes : List ℕ) (p : Point) : Type 0 where
  pub first : List ℕ
  pub gap : List ℕ
  pub second : List ℕ
  pub x : SpellsNumber first p.x
  pub some : 0 < length gap
  pub blanks : AreBlanks gap
  pub y : SpellsNumber second p.y
  pub written : bytes ≡ first ++ (gap ++ second)

-- a member with free blanks round it, in front of what follows it
pub record SpellsMember
    {A : Type 0} (Item : List ℕ → A → Type 0) (bytes : List ℕ) (x : A) (rest : List ℕ)
    : Type 0 where
  pub before : List ℕ
  pub item : List ℕ
  pub after : List ℕ
  pub blanks_before : AreBlanks before
  pub spells : Item item x
  pub blanks_after : AreBlanks after
  pub written : bytes ≡ before ++ (item ++ (after ++ rest))

-- one member or more, with commas between them
abbrev pub SpellsMembers : {A : Type 0} → (List ℕ → A → Type 0) → List ℕ → List A → Type 0
SpellsMembers Item bytes [] = ⊥
SpellsMembers Item bytes (x ∷ []) = SpellsMember Item bytes x []
SpellsMembers Item bytes (x ∷ y ∷ xs) =
    (rest : List ℕ) × SpellsMember Item bytes x (comma ∷ rest) × SpellsMembers Item rest (y ∷ xs)

-- members in brackets
abbrev pub SpellsList : {A : Type 0} → (List ℕ → A → Type 0) → List ℕ → List A → Type 0
SpellsList Item bytes xs =
    (inside : List ℕ) × SpellsMembers Item inside xs × (bytes ≡ opening ∷ (inside ++ closing ∷ []))

abbrev pub SpellsLine : List ℕ → List Point → Type 0
SpellsLine = SpellsList SpellsPosition

abbrev pub SpellsRings : List ℕ → List (List Point) → Type 0
SpellsRings = SpellsList SpellsLine

-- a position in brackets
abbrev pub SpellsLone : List ℕ → Point → Type 0
SpellsLone bytes p = SpellsLine bytes (p ∷ [])

-- a position whose brackets may be left out
abbrev pub SpellsLoose : List ℕ → Point → Type 0
SpellsLoose bytes p = SpellsPosition bytes p ⊎ SpellsLone bytes p

abbrev pub keyword_text : Keyword → List ℕ
keyword_text keyword.Point = codes "POINT"
keyword_text keyword.Line = codes "LINESTRING"
keyword_text keyword.Area = codes "POLYGON"
keyword_text keyword.ManyPoints = codes "MULTIPOINT"
keyword_text keyword.ManyLines = codes "MULTILINESTRING"
keyword_text keyword.ManyAreas = codes "MULTIPOLYGON"

abbrev pub keyword_of : Geometry → Keyword
keyword_of (geo.Point p) = keyword.Point
keyword_of (geo.Line points) = keyword.Line
keyword_of (geo.Area rings) = keyword.Area
keyword_of (geo.ManyPoints points) = keyword.ManyPoints
keyword_of (geo.ManyLines lines) = keyword.ManyLines
keyword_of (geo.ManyAreas areas) = keyword.ManyAreas

abbrev pub SpellsBody : List ℕ → Geometry → Type 0
SpellsBody body (geo.Point p) = SpellsLone body p
SpellsBody body (geo.Line points) = SpellsLine body points
SpellsBody body (geo.Area rings) = SpellsRings body rings
SpellsBody body (geo.ManyPoints points) = SpellsList SpellsLoose body points
SpellsBody body (geo.ManyLines lines) = SpellsRings body lines
SpellsBody body (geo.ManyAreas areas) = SpellsList SpellsRings body areas

-- a word in letters of any case
abbrev pub IsInAnyCase : List ℕ → List ℕ → Type 0
IsInAnyCase word name = map to_ascii_lowercase name ≡ map to_ascii_lowercase word

-- the keyword in any case, free blanks, and the body
pub record SpellsText (text : List ℕ) (geometry : Geometry) : Type 0 where
  pub name : List ℕ
  pub gap : List ℕ
  pub body : List ℕ
  pub named : IsInAnyCase (keyword_text (keyword_of geometry)) name
  pub blanks : AreBlanks gap
  pub spells : SpellsBody body geometry
  pub written : text ≡ name ++ (gap ++ body)
