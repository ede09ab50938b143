-- Keywords and symbols by a number each, by which they are compared.
use Rattle.std.specs.Prelude.{ℕ}
use Rattle.gm_ecql.specs.declared.keyword.Keyword.{Keyword}
use Rattle.gm_ecql.specs.declared.keyword.Keyword.TheVariants as keyword
use Rattle.gm_ecql.specs.declared.token.Symbol.{Symbol}
use Rattle.gm_ecql.specs.declared.token.Symbol.TheVariants as symbol

abbrev pub keyword_place : Keyword → ℕ
keyword_place keyword.And = 0
keyword_place keyword.Or = 1
keyword_place keyword.Not = 2
keyword_place keyword.In = 3
keyword_place keyword.Is = 4
keyword_place keyword.Null = 5
keyword_place keyword.Between = 6
keyword_place keyword.Like = 7
keyword_place keyword.Include = 8
keyword_place keyword.Exclude = 9
keyword_place keyword.Bbox = 10
keyword_place keyword.Intersects = 11
keyword_place keyword.Disjoint = 12
keyword_place keyword.Within = 13
keyword_place keyword.During = 14
keyword_place keyword.Before = 15
keyword_place keyword.After = 16
keyword_place keyword.Tequals = 17
keyword_place keyword.True = 18
keyword_place keyword.False = 19
keyword_place keyword.Where = 20
keyword_place keyword.Point = 21
keyword_place keyword.LineString = 22
keyword_place keyword.Polygon = 23
keyword_place keyword.MultiPoint = 24
keyword_place keyword.MultiLineString = 25
keyword_place keyword.MultiPolygon = 26

abbrev pub symbol_place : Symbol → ℕ
symbol_place symbol.Opening = 0
symbol_place symbol.Closing = 1
symbol_place symbol.Comma = 2
symbol_place symbol.Equal = 3
symbol_place symbol.NotEqual = 4
symbol_place symbol.Less = 5
symbol_place symbol.AtMost = 6
symbol_place symbol.More = 7
symbol_place symbol.AtLeast = 8
symbol_place symbol.Slash = 9
