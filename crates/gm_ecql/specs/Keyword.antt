-- Keywords, in any ASCII case.
use Rattle.std.specs.Prelude.{ℕ, Bool, true, false, ◌==◌, if◌then◌else◌, List, [], ◌∷◌, map, codes}
use Rattle.std.specs.Prelude.{Option, Some, None}
use Rattle.std.specs.Char.{to_ascii_lowercase}
use Rattle.std.specs.Cmp.Lexicographic.{pointwise}
use Rattle.gm_ecql.specs.declared.keyword.Keyword.{Keyword}
use Rattle.gm_ecql.specs.declared.keyword.Keyword.TheVariants.{And, Or, Not, In, Is, Null, Between}
use Rattle.gm_ecql.specs.declared.keyword.Keyword.TheVariants.{Like, Include, Exclude, Bbox}
use Rattle.gm_ecql.specs.declared.keyword.Keyword.TheVariants.{Intersects, Disjoint, Within, During}
use Rattle.gm_ecql.specs.declared.keyword.Keyword.TheVariants.{Before, After, Tequals, True, False}
use Rattle.gm_ecql.specs.declared.keyword.Keyword.TheVariants.{Where, Point, LineString, Polygon}
use Rattle.gm_ecql.specs.declared.keyword.Keyword.TheVariants.{MultiPoint, MultiLineString}
use Rattle.gm_ecql.specs.declared.keyword.Keyword.TheVariants.{MultiPolygon}

abbrev pub keyword_text : Keyword → List ℕ
keyword_text And = codes "AND"
keyword_text Or = codes "OR"
keyword_text Not = codes "NOT"
keyword_text In = codes "IN"
keyword_text Is = codes "IS"
keyword_text Null = codes "NULL"
keyword_text Between = codes "BETWEEN"
keyword_text Like = codes "LIKE"
keyword_text Include = codes "INCLUDE"
keyword_text Exclude = codes "EXCLUDE"
keyword_text Bbox = codes "BBOX"
keyword_text Intersects = codes "INTERSECTS"
keyword_text Disjoint = codes "DISJOINT"
keyword_text Within = codes "WITHIN"
keyword_text During = codes "DURING"
keyword_text Before = codes "BEFORE"
keyword_text After = codes "AFTER"
keyword_text Tequals = codes "TEQUALS"
keyword_text True = codes "TRUE"
keyword_text False = codes "FALSE"
keyword_text Where = codes "WHERE"
keyword_text Point = codes "POINT"
keyword_text LineString = codes "LINESTRING"
keyword_text Polygon = codes "POLYGON"
keyword_text MultiPoint = codes "MULTIPOINT"
keyword_text MultiLineString = codes "MULTILINESTRING"
keyword_text MultiPolygon = codes "MULTIPOLYGON"

abbrev pub keywords : List Keyword
keywords =
    And ∷ Or ∷ Not ∷ In ∷ Is ∷ Null ∷ Between ∷ Like ∷ Include ∷ Exclude ∷ Bbox
    ∷ Intersects ∷ Disjoint
    ∷ Within ∷ During ∷ Before ∷ After ∷ Tequals ∷ True ∷ False ∷ Where ∷ Point
    ∷ LineString ∷ Polygon
    ∷ MultiPoint ∷ MultiLineString ∷ MultiPolygon ∷ []

-- whether letters in lower case are those of the keyword
abbrev pub is_named : Keyword → List ℕ → Bool
is_named k lower = pointwise ◌==◌ lower (map to_ascii_lowercase (keyword_text k))

abbrev pub first_named : List ℕ → List Keyword → Option Keyword
first_named lower [] = None
first_named lower (k ∷ ks) = if is_named k lower then Some k else first_named lower ks

-- the keyword that a word is, in any case
unfoldable pub keyword_of : List ℕ → Option Keyword
keyword_of word = first_named (map to_ascii_lowercase word) keywords

-- the six words that a geometry begins with
abbrev pub begins_geometry : Keyword → Bool
begins_geometry And = false
begins_geometry Or = false
begins_geometry Not = false
begins_geometry In = false
begins_geometry Is = false
begins_geometry Null = false
begins_geometry Between = false
begins_geometry Like = false
begins_geometry Include = false
begins_geometry Exclude = false
begins_geometry Bbox = false
begins_geometry Intersects = false
begins_geometry Disjoint = false
begins_geometry Within = false
begins_geometry During = false
begins_geometry Before = false
begins_geometry After = false
begins_geometry Tequals = false
begins_geometry True = false
begins_geometry False = false
begins_geometry Where = false
begins_geometry Point = true
begins_geometry LineString = true
begins_geometry Polygon = true
begins_geometry MultiPoint = true
begins_geometry MultiLineString = true
begins_geometry MultiPolygon = true
