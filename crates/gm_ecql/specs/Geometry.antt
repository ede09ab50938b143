-- Geometries among tokens.
use Rattle.std.specs.Prelude.{ℕ, suc, ◌==◌, ◌&&◌, Bool, true, false, codes, if◌then◌else◌}
use Rattle.std.specs.Prelude.{List, [], ◌∷◌, ◌++◌, take, drop, Option, Some, None, Result, Ok, Err}
use Rattle.std.specs.Prelude.{option_map}
use Rattle.gm_geom.specs.declared.geometry.Geometry.{Geometry}
use Rattle.gm_wkt.specs.declared.fault.WktFault.{WktFault}
use Rattle.gm_wkt.specs.declared.fault.WktFault.TheVariants as wkt_fault
use Rattle.gm_wkt.specs.Answer.{answer_of}
use Rattle.gm_ecql.specs.declared.token.Symbol.{Symbol}
use Rattle.gm_ecql.specs.declared.token.Symbol.TheVariants as symbol
use Rattle.gm_ecql.specs.Limits.{depth_behind, is_number}
use Rattle.gm_ecql.specs.Token.{Seen, a_keyword, a_name, a_text, an_instant, a_number, a_symbol}
use Rattle.gm_ecql.specs.Token.{symbol_text}
use Rattle.gm_ecql.specs.Keyword.{begins_geometry, keyword_text}

abbrev pub is_geometry_word : Seen → Bool
is_geometry_word (a_keyword k) = begins_geometry k
is_geometry_word _ = false

-- how many tokens there are up to the first behind which no bracket is open
abbrev pub group_count : ℕ → List Seen → Option ℕ
group_count depth [] = None
group_count depth (t ∷ ts) =
    if depth_behind depth t == 0 then Some 1
    else option_map suc (group_count (depth_behind depth t) ts)

abbrev pub cut_behind : Option ℕ → Seen → List Seen → Option (List Seen × List Seen)
cut_behind None t ts = None
cut_behind (Some n) t ts = Some (t ∷ take n ts, drop n ts)

-- the tokens of a geometry at the front, and what follows them
abbrev pub piece_at : List Seen → Option (List Seen × List Seen)
piece_at [] = None
piece_at (t ∷ ts) = if is_geometry_word t then cut_behind (group_count 0 ts) t ts else None

-- Tokens as the printed form of geometries has them: a blank behind a keyword, behind each comma
-- and between two numbers, and none elsewhere.
abbrev pub wkt_symbol_text : Symbol → List ℕ
wkt_symbol_text symbol.Opening = symbol_text symbol.Opening
wkt_symbol_text symbol.Closing = symbol_text symbol.Closing
wkt_symbol_text symbol.Comma = codes ", "
wkt_symbol_text symbol.Equal = symbol_text symbol.Equal
wkt_symbol_text symbol.NotEqual = symbol_text symbol.NotEqual
wkt_symbol_text symbol.Less = symbol_text symbol.Less
wkt_symbol_text symbol.AtMost = symbol_text symbol.AtMost
wkt_symbol_text symbol.More = symbol_text symbol.More
wkt_symbol_text symbol.AtLeast = symbol_text symbol.AtLeast
wkt_symbol_text symbol.Slash = symbol_text symbol.Slash

-- with a quote no geometry is written
abbrev pub token_text : Seen → List ℕ
token_text (a_keyword k) = keyword_text k ++ codes " "
token_text (a_name bytes) = codes "'"
token_text (a_text bytes) = codes "'"
token_text (an_instant at) = codes "'"
token_text (a_number bytes) = bytes
token_text (a_symbol s) = wkt_symbol_text s

abbrev pub gap_text : Bool → List ℕ
gap_text true = codes " "
gap_text false = []

-- `behind` says that the token before is a number
abbrev pub text_behind : Bool → List Seen → List ℕ
text_behind behind [] = []
text_behind behind (t ∷ ts) =
    gap_text (behind && is_number t) ++ (token_text t ++ text_behind (is_number t) ts)

abbrev pub text_of : List Seen → List ℕ
text_of = text_behind false

-- of what is read as Well-Known Text: nothing where it spells no geometry, else the one that is
-- kept, if it is
abbrev pub kept_of : Result Geometry WktFault → Option (Option Geometry)
kept_of (Ok g) = Some (Some g)
kept_of (Err wkt_fault.Syntax) = None
kept_of (Err (wkt_fault.Geom f)) = Some None
kept_of (Err wkt_fault.NoMemory) = None

abbrev pub geometry_of : List Seen → Option (Option Geometry)
geometry_of piece = kept_of (answer_of (text_of piece))
