-- Keywords and what stands behind them.
use Rattle.std.proofs.Common.{◌≡◌, ℕ, Bool, true, false, ◌&&◌, ◌==◌, cond, List, [], ◌∷◌, ◌++◌, map}
use Rattle.std.proofs.Common.{take, drop, Option, Some, None, refl, sym, ap, ◌∙◌, subst, arith}
use Rattle.std.proofs.Common.{eqb-true}
use Rattle.std.proofs.lemmas.Bool.{and_parts}
use Rattle.std.specs.List.{list_all}
use Rattle.std.specs.Char.{is_ascii_alphabetic, is_ascii_lowercase, to_ascii_lowercase}
use Rattle.std.specs.Cmp.Lexicographic.{pointwise}
use Rattle.std.proofs.lemmas.Bool.Decides.{nat_tests}
use Rattle.gm_base.proofs.Lists.{take_drop}
use Rattle.gm_geom.specs.declared.point.Point.{Point}
use Rattle.gm_geom.specs.declared.geometry.Geometry.{Geometry}
use Rattle.gm_geom.specs.declared.geometry.Geometry.TheVariants as geo
use Rattle.gm_wkt.specs.declared.keyword.Keyword.{Keyword}
use Rattle.gm_wkt.specs.declared.keyword.Keyword.TheVariants as keyword
use Rattle.gm_base.specs.Ascii.{is_blank}
use Rattle.gm_wkt.specs.Grammar.{AreBlanks, keyword_text, keyword_of, SpellsLone}
use Rattle.gm_wkt.specs.Grammar.{SpellsLine, SpellsRings, SpellsLoose, SpellsPosition, SpellsList}
use Rattle.gm_wkt.specs.Grammar.{SpellsBody, SpellsText}
use Rattle.gm_wkt.specs.Reader.{skip_blanks, Starts, Stops}
use Rattle.gm_wkt.specs.Keyword.{letter_run, is_named, keyword_named}
use Rattle.gm_wkt.proofs.Scans.{take_run, drop_run, skip_over, skipped}

lower_letter : (b c : ℕ) → to_ascii_lowercase b ≡ c → is_ascii_lowercase c ≡ true
    → is_ascii_alphabetic b ≡ true
lower_letter b c e low = grind (arith, nat_tests)

letters : (name word : List ℕ) → map to_ascii_lowercase name ≡ word
    → list_all is_ascii_lowercase word ≡ true → list_all is_ascii_alphabetic name ≡ true
letters [] word e low = refl
letters (b ∷ name) [] e low = absurd (cc)
letters (b ∷ name) (c ∷ word) e low =
    let head : to_ascii_lowercase b ≡ c = cc in
    let tail : map to_ascii_lowercase name ≡ word = cc in
    let each = and_parts (is_ascii_lowercase c) (list_all is_ascii_lowercase word) low in
    ap (λ t. t && list_all is_ascii_alphabetic name) (lower_letter b c head each.0)
    ∙ letters name word tail each.1

keyword_low : (k : Keyword)
    → list_all is_ascii_lowercase (map to_ascii_lowercase (keyword_text k)) ≡ true
keyword_low keyword.Point = refl
keyword_low keyword.Line = refl
keyword_low keyword.Area = refl
keyword_low keyword.ManyPoints = refl
keyword_low keyword.ManyLines = refl
keyword_low keyword.ManyAreas = refl

keyword_is : (k : Keyword) → keyword_named (map to_ascii_lowercase (keyword_text k)) ≡ Some k
keyword_is keyword.Point = refl
keyword_is keyword.Line = refl
keyword_is keyword.Area = refl
keyword_is keyword.ManyPoints = refl
keyword_is keyword.ManyLines = refl
keyword_is keyword.ManyAreas = refl

same_list : (a b : List ℕ) → pointwise ◌==◌ a b ≡ true → a ≡ b
same_list [] [] e = refl
same_list [] (y ∷ ys) e = absurd (cc)
same_list (x ∷ xs) [] e = absurd (cc)
same_list (x ∷ xs) (y ∷ ys) e =
    let each = and_parts (x == y) (pointwise ◌==◌ xs ys) e in
    ap (λ n. n ∷ xs) (eqb-true x y each.0) ∙ ap (λ l. y ∷ l) (same_list xs ys each.1)

-- a test that passes, or the choice behind it
passes_or : (P : Type 0) (t : Bool) (j k : Keyword) (rest : Option Keyword)
    → cond t (Some j) rest ≡ Some k → (t ≡ true → j ≡ k → P) → (rest ≡ Some k → P) → P
passes_or P true j k rest e first second = let same : j ≡ k = cc in first refl same
passes_or P false j k rest e first second = second e

pub keyword_found : (lower : List ℕ) (k : Keyword) → keyword_named lower ≡ Some k
    → lower ≡ map to_ascii_lowercase (keyword_text k)
keyword_found lower k e =
    let P : Type 0 = lower ≡ map to_ascii_lowercase (keyword_text k) in
    let is : (j : Keyword) → is_named j lower ≡ true → j ≡ k → P =
    λ j t same. same_list lower (map to_ascii_lowercase (keyword_text j)) t
    ∙ ap (λ i. map to_ascii_lowercase (keyword_text i)) same in
    passes_or P (is_named keyword.Point lower) keyword.Point k _ e (is keyword.Point) (λ e2.
    passes_or P (is_named keyword.Line lower) keyword.Line k _ e2 (is keyword.Line) (λ e3.
    passes_or P (is_named keyword.Area lower) keyword.Area k _ e3 (is keyword.Area) (λ e4.
    passes_or P (is_named keyword.ManyPoints lower) keyword.ManyPoints k _ e4
    (is keyword.ManyPoints) (λ e5.
    passes_or P (is_named keyword.ManyLines lower) keyword.ManyLines k _ e5
    (is keyword.ManyLines) (λ e6.
    passes_or P (is_named keyword.ManyAreas lower) keyword.ManyAreas k None e6
    (is keyword.ManyAreas) (λ e7. absurd (none e7))
    )))))
  where
    none : None ≡ Some k → ⊥
    none e = cc

-- every body begins with a bracket
list_opens : {A : Type 0} (Item : List ℕ → A → Type 0) (body : List ℕ) (xs : List A)
    → SpellsList Item body xs → (rest : List ℕ) × (body ≡ 40 ∷ rest)
list_opens Item body xs l = (l.0 ++ 41 ∷ [], l.2)

body_opens : (body : List ℕ) (g : Geometry) → SpellsBody body g
    → (rest : List ℕ) × (body ≡ 40 ∷ rest)
body_opens body (geo.Point p) s = list_opens SpellsPosition body (p ∷ []) s
body_opens body (geo.Line points) s = list_opens SpellsPosition body points s
body_opens body (geo.Area rings) s = list_opens SpellsLine body rings s
body_opens body (geo.ManyPoints points) s = list_opens SpellsLoose body points s
body_opens body (geo.ManyLines lines) s = list_opens SpellsLine body lines s
body_opens body (geo.ManyAreas areas) s = list_opens SpellsRings body areas s

blank_no_letter : (b : ℕ) → is_blank b ≡ true → is_ascii_alphabetic b ≡ false
blank_no_letter b e = grind (arith, nat_tests)

gap_stops : (gap rest : List ℕ) → AreBlanks gap → Stops is_ascii_alphabetic rest
    → Stops is_ascii_alphabetic (gap ++ rest)
gap_stops [] rest blanks stops = stops
gap_stops (b ∷ gap) rest blanks stops =
    blank_no_letter b (and_parts (is_blank b) (list_all is_blank gap) blanks).0

-- what a text that spells a geometry is cut into
pub text_parts : (text : List ℕ) (g : Geometry) (s : SpellsText text g)
    → (take (letter_run text) text ≡ s.name) × (skip_blanks (drop (letter_run text) text) ≡ s.body)
text_parts text g s =
    let opened = body_opens s.body g s.spells in
    let all : list_all is_ascii_alphabetic s.name ≡ true =
    letters s.name (map to_ascii_lowercase (keyword_text (keyword_of g))) s.named
    (keyword_low (keyword_of g)) in
    let stops : Stops is_ascii_alphabetic (s.gap ++ s.body) =
    gap_stops s.gap s.body s.blanks
    (subst (λ t. Stops is_ascii_alphabetic t) (sym opened.1) refl) in
    let starts : Starts s.body = subst (λ t. Starts t) (sym opened.1) refl in (
      ap (λ t. take (letter_run t) t) s.written
          ∙ take_run is_ascii_alphabetic s.name (s.gap ++ s.body) all stops,
      ap (λ t. skip_blanks (drop (letter_run t) t)) s.written
          ∙ ap skip_blanks (drop_run is_ascii_alphabetic s.name (s.gap ++ s.body) all stops)
          ∙ skip_over s.gap s.body s.blanks starts,
    )

pub text_keyword : (text : List ℕ) (g : Geometry) → SpellsText text g
    → keyword_named (map to_ascii_lowercase (take (letter_run text) text)) ≡ Some (keyword_of g)
text_keyword text g s =
    ap keyword_named (ap (map to_ascii_lowercase) (text_parts text g s).0 ∙ s.named)
    ∙ keyword_is (keyword_of g)

pub text_body : (text : List ℕ) (g : Geometry) → SpellsText text g
    → SpellsBody (skip_blanks (drop (letter_run text) text)) g
text_body text g s = subst (λ t. SpellsBody t g) (sym (text_parts text g s).1) s.spells

pub text_found : (text name rest body : List ℕ) (k : Keyword) (g : Geometry)
    → name ≡ take (letter_run text) text → rest ≡ drop (letter_run text) text
    → body ≡ skip_blanks rest → Some k ≡ keyword_named (map to_ascii_lowercase name)
    → keyword_of g ≡ k → SpellsBody body g → SpellsText text g
text_found text name rest body k g en er eb read ek s =
    let gap = skipped rest in record {
      name = name;
      gap = gap.0;
      body = body;
      named = keyword_found (map to_ascii_lowercase name) k (sym read)
          ∙ ap (λ i. map to_ascii_lowercase (keyword_text i)) (sym ek);
      blanks = gap.1;
      spells = s;
      written = take_drop (letter_run text) text
          ∙ ap (λ t. t ++ drop (letter_run text) text) (sym en)
          ∙ ap (λ t. name ++ t) (sym er ∙ gap.2 ∙ ap (λ t. gap.0 ++ t) (sym eb));
    }

-- the geometry behind a keyword
pub body_point : (body : List ℕ) (g : Geometry) → keyword_of g ≡ keyword.Point → SpellsBody body g
    → (x : Point) × (SpellsLone body x) × (g ≡ geo.Point x)
body_point body (geo.Point x) e s = (x, s, refl)
body_point body (geo.Line x) e s = absurd (cc)
body_point body (geo.Area x) e s = absurd (cc)
body_point body (geo.ManyPoints x) e s = absurd (cc)
body_point body (geo.ManyLines x) e s = absurd (cc)
body_point body (geo.ManyAreas x) e s = absurd (cc)

pub body_line : (body : List ℕ) (g : Geometry) → keyword_of g ≡ keyword.Line → SpellsBody body g
    → (x : List Point) × (SpellsLine body x) × (g ≡ geo.Line x)
body_line body (geo.Point x) e s = absurd (cc)
body_line body (geo.Line x) e s = (x, s, refl)
body_line body (geo.Area x) e s = absurd (cc)
body_line body (geo.ManyPoints x) e s = absurd (cc)
body_line body (geo.ManyLines x) e s = absurd (cc)
body_line body (geo.ManyAreas x) e s = absurd (cc)

pub body_area : (body : List ℕ) (g : Geometry) → keyword_of g ≡ keyword.Area → SpellsBody body g
    → (x : List (List Point)) × (SpellsRings body x) × (g ≡ geo.Area x)
body_area body (geo.Point x) e s = absurd (cc)
body_area body (geo.Line x) e s = absurd (cc)
body_area body (geo.Area x) e s = (x, s, refl)
body_area body (geo.ManyPoints x) e s = absurd (cc)
body_area body (geo.ManyLines x) e s = absurd (cc)
body_area body (geo.ManyAreas x) e s = absurd (cc)

pub body_points : (body : List ℕ) (g : Geometry) → keyword_of g ≡ keyword.ManyPoints
    → SpellsBody body g
    → (x : List Point) × (SpellsList SpellsLoose body x) × (g ≡ geo.ManyPoints x)
body_points body (geo.Point x) e s = absurd (cc)
body_points body (geo.Line x) e s = absurd (cc)
body_points body (geo.Area x) e s = absurd (cc)
body_points body (geo.ManyPoints x) e s = (x, s, refl)
body_points body (geo.ManyLines x) e s = absurd (cc)
body_points body (geo.ManyAreas x) e s = absurd (cc)

pub body_lines : (body : List ℕ) (g : Geometry) → keyword_of g ≡ keyword.ManyLines
    → SpellsBody body g → (x : List (List Point)) × (SpellsRings body x) × (g ≡ geo.ManyLines x)
body_lines body (geo.Point x) e s = absurd (cc)
body_lines body (geo.Line x) e s = absurd (cc)
body_lines body (geo.Area x) e s = absurd (cc)
body_lines body (geo.ManyPoints x) e s = absurd (cc)
body_lines body (geo.ManyLines x) e s = (x, s, refl)
body_lines body (geo.ManyAreas x) e s = absurd (cc)

pub body_areas : (body : List ℕ) (g : Geometry) → keyword_of g ≡ keyword.ManyAreas
    → SpellsBody body g
    → (x : List (List (List Point))) × (SpellsList SpellsRings body x) × (g ≡ geo.ManyAreas x)
body_areas body (geo.Point x) e s = absurd (cc)
body_areas body (geo.Line x) e s = absurd (cc)
body_areas body (geo.Area x) e s = absurd (cc)
body_areas body (geo.ManyPoints x) e s = absurd (cc)
body_areas body (geo.ManyLines x) e s = absurd (cc)
body_areas body (geo.ManyAreas x) e s = (x, s, refl)
