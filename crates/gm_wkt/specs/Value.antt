-- The geometry that a text spells, as a function.
use Rattle.std.specs.Prelude.{ℕ, zero, suc, Bool, true, false, if◌then◌else◌, List, [], ◌∷◌, length}
use Rattle.std.specs.Prelude.{map, take, drop, Option, Some, None, option_map, option_and_then}
use Rattle.std.specs.Char.{to_ascii_lowercase}
use Rattle.gm_geom.specs.declared.point.Point.{Point}
use Rattle.gm_geom.specs.declared.geometry.Geometry.{Geometry}
use Rattle.gm_geom.specs.declared.geometry.Geometry.TheVariants as geo
use Rattle.gm_wkt.specs.declared.keyword.Keyword.{Keyword}
use Rattle.gm_wkt.specs.declared.keyword.Keyword.TheVariants as keyword
use Rattle.gm_base.specs.Ascii.{opening}
use Rattle.gm_wkt.specs.Reader.{skip_blanks, behind, point_at, lone_at, separator_at}
use Rattle.gm_wkt.specs.Keyword.{letter_run, keyword_named}

-- a value at the front, and what follows it
abbrev pub Reader : Type 0 → Type 0
Reader A = List ℕ → Option (A × List ℕ)

-- a member, and what follows its separator
abbrev pub member_then :
    {A : Type 0} → Reader (List A) → A → Option (Bool × List ℕ) → Option (List A × List ℕ)
member_then more x None = None
member_then more x (Some s) =
    if s.0 then option_map (λ r. (x ∷ r.0, r.1)) (more s.1) else Some (x ∷ [], s.1)

-- members up to the closing bracket. The number bounds their count; that of the bytes is always
-- enough.
unfoldable pub members_at : {A : Type 0} → Reader A → ℕ → Reader (List A)
members_at item zero text = None
members_at item (suc n) text =
    option_and_then (λ m. member_then (members_at item n) m.0 (separator_at m.1))
    (item (skip_blanks text))

abbrev pub list_at : {A : Type 0} → Reader A → Reader (List A)
list_at item text =
    option_and_then (λ inside. members_at item (length inside) inside) (behind opening text)

abbrev pub if_last : {A : Type 0} → A → List ℕ → Option A
if_last x [] = Some x
if_last x (b ∷ bytes) = None

-- the value that all bytes spell
abbrev pub whole : {A : Type 0} → Reader A → List ℕ → Option A
whole item text = option_and_then (λ r. if_last r.0 r.1) (item text)

abbrev pub line_at : Reader (List Point)
line_at = list_at (point_at false)

abbrev pub body_of : Keyword → List ℕ → Option Geometry
body_of keyword.Point body = option_map (λ x. geo.Point x) (whole lone_at body)
body_of keyword.Line body = option_map (λ x. geo.Line x) (whole line_at body)
body_of keyword.Area body = option_map (λ x. geo.Area x) (whole (list_at line_at) body)
body_of keyword.ManyPoints body =
    option_map (λ x. geo.ManyPoints x) (whole (list_at (point_at true)) body)
body_of keyword.ManyLines body = option_map (λ x. geo.ManyLines x) (whole (list_at line_at) body)
body_of keyword.ManyAreas body =
    option_map (λ x. geo.ManyAreas x) (whole (list_at (list_at line_at)) body)

abbrev pub geometry_of : List ℕ → Option Geometry
geometry_of text =
    option_and_then (λ k. body_of k (skip_blanks (drop (letter_run text) text)))
    (keyword_named (map to_ascii_lowercase (take (letter_run text) text)))
