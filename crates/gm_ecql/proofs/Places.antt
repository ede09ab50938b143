-- A keyword's number tells which it is, and a symbol's.
use Rattle.std.proofs.Common.{◌≡◌, ℕ, refl, sym, ◌∙◌, ap, true, cond, eqb, eqb-true}
use Rattle.gm_ecql.specs.declared.keyword.Keyword.{Keyword}
use Rattle.gm_ecql.specs.declared.keyword.Keyword.TheVariants as k
use Rattle.gm_ecql.specs.declared.token.Symbol.{Symbol}
use Rattle.gm_ecql.specs.declared.token.Symbol.TheVariants as s
use Rattle.gm_ecql.specs.Places.{keyword_place, symbol_place}

keyword_at : ℕ → Keyword
keyword_at n =
    cond (eqb n 0) k.And (
    cond (eqb n 1) k.Or (
    cond (eqb n 2) k.Not (
    cond (eqb n 3) k.In (
    cond (eqb n 4) k.Is (
    cond (eqb n 5) k.Null (
    cond (eqb n 6) k.Between (
    cond (eqb n 7) k.Like (
    cond (eqb n 8) k.Include (
    cond (eqb n 9) k.Exclude (
    cond (eqb n 10) k.Bbox (
    cond (eqb n 11) k.Intersects (
    cond (eqb n 12) k.Disjoint (
    cond (eqb n 13) k.Within (
    cond (eqb n 14) k.During (
    cond (eqb n 15) k.Before (
    cond (eqb n 16) k.After (
    cond (eqb n 17) k.Tequals (
    cond (eqb n 18) k.True (
    cond (eqb n 19) k.False (
    cond (eqb n 20) k.Where (
    cond (eqb n 21) k.Point (
    cond (eqb n 22) k.LineString (
    cond (eqb n 23) k.Polygon (
    cond (eqb n 24) k.MultiPoint (
    cond (eqb n 25) k.MultiLineString (
    k.MultiPolygon))))))))))))))))))))))))))

keyword_at_place : (x : Keyword) → keyword_at (keyword_place x) ≡ x
unfolding keyword_at
keyword_at_place k.And = refl
keyword_at_place k.Or = refl
keyword_at_place k.Not = refl
keyword_at_place k.In = refl
keyword_at_place k.Is = refl
keyword_at_place k.Null = refl
keyword_at_place k.Between = refl
keyword_at_place k.Like = refl
keyword_at_place k.Include = refl
keyword_at_place k.Exclude = refl
keyword_at_place k.Bbox = refl
keyword_at_place k.Intersects = refl
keyword_at_place k.Disjoint = refl
keyword_at_place k.Within = refl
keyword_at_place k.During = refl
keyword_at_place k.Before = refl
keyword_at_place k.After = refl
keyword_at_place k.Tequals = refl
keyword_at_place k.True = refl
keyword_at_place k.False = refl
keyword_at_place k.Where = refl
keyword_at_place k.Point = refl
keyword_at_place k.LineString = refl
keyword_at_place k.Polygon = refl
keyword_at_place k.MultiPoint = refl
keyword_at_place k.MultiLineString = refl
keyword_at_place k.MultiPolygon = refl

pub same_keyword : (x y : Keyword) → eqb (keyword_place x) (keyword_place y) ≡ true → x ≡ y
same_keyword x y h =
    sym (keyword_at_place x) ∙ ap keyword_at (eqb-true (keyword_place x) (keyword_place y) h)
    ∙ keyword_at_place y

symbol_at : ℕ → Symbol
symbol_at n =
    cond (eqb n 0) s.Opening (
    cond (eqb n 1) s.Closing (
    cond (eqb n 2) s.Comma (
    cond (eqb n 3) s.Equal (
    cond (eqb n 4) s.NotEqual (
    cond (eqb n 5) s.Less (
    cond (eqb n 6) s.AtMost (
    cond (eqb n 7) s.More (
    cond (eqb n 8) s.AtLeast (
    s.Slash)))))))))

symbol_at_place : (x : Symbol) → symbol_at (symbol_place x) ≡ x
unfolding symbol_at
symbol_at_place s.Opening = refl
symbol_at_place s.Closing = refl
symbol_at_place s.Comma = refl
symbol_at_place s.Equal = refl
symbol_at_place s.NotEqual = refl
symbol_at_place s.Less = refl
symbol_at_place s.AtMost = refl
symbol_at_place s.More = refl
symbol_at_place s.AtLeast = refl
symbol_at_place s.Slash = refl

pub same_symbol : (x y : Symbol) → eqb (symbol_place x) (symbol_place y) ≡ true → x ≡ y
same_symbol x y h =
    sym (symbol_at_place x) ∙ ap symbol_at (eqb-true (symbol_place x) (symbol_place y) h)
    ∙ symbol_at_place y
