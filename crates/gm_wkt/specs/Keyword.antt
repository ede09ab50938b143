-- Keywords, as a reader finds them.
use Rattle.std.specs.Prelude.{◌==◌, ℕ, Bool, if◌then◌else◌, List, map, Option, Some, None}
use Rattle.std.specs.List.{prefix_len}
use Rattle.std.specs.Char.{is_ascii_alphabetic, to_ascii_lowercase}
use Rattle.std.specs.Cmp.Lexicographic.{pointwise}
use Rattle.gm_wkt.specs.declared.keyword.Keyword.{Keyword}
use Rattle.gm_wkt.specs.declared.keyword.Keyword.TheVariants as keyword
use Rattle.gm_wkt.specs.Grammar.{keyword_text}

-- the letters at the front
abbrev pub letter_run : List ℕ → ℕ
letter_run text = prefix_len is_ascii_alphabetic text

-- whether letters in lower case are those of the keyword
abbrev pub is_named : Keyword → List ℕ → Bool
is_named k lower = pointwise ◌==◌ lower (map to_ascii_lowercase (keyword_text k))

abbrev pub keyword_named : List ℕ → Option Keyword
keyword_named lower =
    if is_named keyword.Point lower then Some keyword.Point
    else (if is_named keyword.Line lower then Some keyword.Line
    else (if is_named keyword.Area lower then Some keyword.Area
    else (if is_named keyword.ManyPoints lower then Some keyword.ManyPoints
    else (if is_named keyword.ManyLines lower then Some keyword.ManyLines
    else (if is_named keyword.ManyAreas lower then Some keyword.ManyAreas
    else None)))))
