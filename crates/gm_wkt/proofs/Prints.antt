-- What is printed of a geometry that is kept spells it.
use Rattle.std.proofs.Common.{◌≡◌, ℕ, ◌<◌, Bool, true, false, ◌&&◌, ◌||◌, not, ℤ, pos, negsuc, List}
use Rattle.std.proofs.Common.{[], ◌∷◌, ◌++◌, Some, None, Ok, inr, refl, sym, ap, ◌∙◌, arith}
use Rattle.std.proofs.Common.{ltb-true, leb-true, lit<, if◌then◌else◌, ◌^◌, eqb}
use Rattle.std.proofs.lemmas.Bool.{and_parts, and_from, or_parts}
use Rattle.std.specs.List.{list_all, list_any, AllByRecursion}
use Rattle.std.specs.Char.{is_ascii_uppercase}
use Rattle.std.proofs.lemmas.List.Concat.{flat_map-append}
use Rattle.std.proofs.lemmas.List.Folds.{list_all-append}
use Rattle.gm_geom.specs.declared.point.Point.{Point}
use Rattle.gm_geom.specs.declared.geometry.Geometry.{Geometry}
use Rattle.gm_geom.specs.declared.geometry.Geometry.TheVariants as geo
use Rattle.gm_geom.specs.declared.validity.GeomFault.TheVariants.{Many, Range, Short, Ring}
use Rattle.gm_geom.specs.Number.{fixed_of, fixed_text, is_number_byte}
use Rattle.gm_geom.specs.Geometry.{joined, points_of, lines_of}
use Rattle.gm_geom.specs.Validity.{is_within, is_in_world, is_empty, is_hollow, has_empty_list}
use Rattle.gm_geom.specs.Validity.{has_one_point, fault_of}
use Rattle.gm_wkt.specs.Grammar.{AreBlanks, coordinate_from, SpellsNumber, SpellsPosition}
use Rattle.gm_wkt.specs.Grammar.{SpellsMembers, SpellsList, SpellsLine, SpellsRings, SpellsLone}
use Rattle.gm_wkt.specs.Grammar.{SpellsLoose, SpellsBody, SpellsText, keyword_text, keyword_of}
use Rattle.gm_wkt.specs.Printer.{position_text, members_text, list_text, line_text, rings_text}
use Rattle.gm_wkt.specs.Printer.{lone_text, body_text, printed, FitsPoint, is_point_byte}
use mir.Syntax.{w32}
use mir.Val.{SFits}

-- what the crate below says of printed numbers
pub record PrintsNumbers : Type 0 where
  pub reads : (z : ℤ) → SFits w32 z → fixed_of (fixed_text z) ≡ Ok z
  pub bytes : (z : ℤ) → SFits w32 z → list_all is_number_byte (fixed_text z) ≡ true

number_spells : PrintsNumbers → (z : ℤ) → SFits w32 z → SpellsNumber (fixed_text z) z
number_spells numbers z fits =
    record { bytes_of = numbers.bytes z fits; value = ap coordinate_from (numbers.reads z fits) }

position_spells : PrintsNumbers → (p : Point) → FitsPoint p → SpellsPosition (position_text p) p
position_spells numbers p fits = record {
  first = fixed_text p.x;
  gap = 32 ∷ [];
  second = fixed_text p.y;
  x = number_spells numbers p.x fits.x;
  some = omega arith;
  blanks = refl;
  y = number_spells numbers p.y fits.y;
  written = refl;
}

-- a list that has a member, and whose members all hold
abbrev IsFull : {A : Type 0} → (A → Type 0) → List A → Type 0
IsFull P [] = ⊥
IsFull P (x ∷ xs) = P x × AllByRecursion P xs

members_spell : {A : Type 0} (P : A → Type 0) (item : A → List ℕ) (Item : List ℕ → A → Type 0)
    → ((x : A) → P x → Item (item x) x) → (before : List ℕ) (x : A) (xs : List A) → AreBlanks before
    → P x → AllByRecursion P xs
    → SpellsMembers Item (before ++ (item x ++ members_text item false xs)) (x ∷ xs)
members_spell P item Item each before x [] blanks first rest = record {
  before = before;
  item = item x;
  after = [];
  blanks_before = blanks;
  spells = each x first;
  blanks_after = refl;
  written = refl;
}
members_spell P item Item each before x (y ∷ ys) blanks first rest = (
  32 ∷ (item y ++ members_text item false ys),
  record {
    before = before;
    item = item x;
    after = [];
    blanks_before = blanks;
    spells = each x first;
    blanks_after = refl;
    written = refl;
  },
  members_spell P item Item each (32 ∷ []) y ys refl rest.0 rest.1,
)

list_spells : {A : Type 0} (P : A → Type 0) (item : A → List ℕ) (Item : List ℕ → A → Type 0)
    → ((x : A) → P x → Item (item x) x) → (xs : List A) → IsFull P xs
    → SpellsList Item (list_text item xs) xs
list_spells P item Item each [] full = absurd full
list_spells P item Item each (x ∷ xs) full = (
  item x ++ members_text item false xs,
  members_spell P item Item each [] x xs refl full.0 full.1,
  refl,
)

line_spells : PrintsNumbers → (points : List Point) → IsFull FitsPoint points
    → SpellsLine (line_text points) points
line_spells numbers points full =
    list_spells FitsPoint position_text SpellsPosition (position_spells numbers) points full

rings_spell : PrintsNumbers → (rings : List (List Point)) → IsFull (IsFull FitsPoint) rings
    → SpellsRings (rings_text rings) rings
rings_spell numbers rings full =
    list_spells (IsFull FitsPoint) line_text SpellsLine (line_spells numbers) rings full

lone_spells : PrintsNumbers → (p : Point) → FitsPoint p → SpellsLone (lone_text p) p
lone_spells numbers p fits = line_spells numbers (p ∷ []) (fits, tt)

-- what is kept is full and fits
within_fits : (n : ℕ) (z : ℤ) → n < 2 ^ 31 → is_within n z ≡ true → SFits w32 z
within_fits n (pos m) small e = record { sfits = omega (arith, leb-true m n e) }
within_fits n (negsuc m) small e = record { sfits = omega (arith, ltb-true m n e) }

point_fits : (p : Point) → is_in_world p ≡ true → FitsPoint p
point_fits p e =
    let each = and_parts (is_within 1800000000 p.x) (is_within 900000000 p.y) e in
    record {
      x = within_fits 1800000000 p.x (lit< tt) each.0;
      y = within_fits 900000000 p.y (lit< tt) each.1;
    }

points_fit : (points : List Point) → list_all is_in_world points ≡ true
    → AllByRecursion FitsPoint points
points_fit [] e = tt
points_fit (p ∷ ps) e = let each = and_parts (is_in_world p) (list_all is_in_world ps) e in
    (point_fits p each.0, points_fit ps each.1)

full_line : (points : List Point) → is_empty points ≡ false → list_all is_in_world points ≡ true
    → IsFull FitsPoint points
full_line [] some e = absurd (cc)
full_line (p ∷ ps) some e = points_fit (p ∷ ps) e

all_split : {X : Type 0} (test : X → Bool) (xs ys : List X) → list_all test (xs ++ ys) ≡ true
    → (list_all test xs ≡ true) × (list_all test ys ≡ true)
all_split test [] ys e = (refl, e)
all_split test (x ∷ xs) ys e =
    let each = and_parts (test x) (list_all test (xs ++ ys)) e in
    let rest = all_split test xs ys each.1 in
    (ap (λ b. b && list_all test xs) each.0 ∙ rest.0, rest.1)

all_lines : (lines : List (List Point)) → list_any is_empty lines ≡ false
    → list_all is_in_world (joined lines) ≡ true → AllByRecursion (IsFull FitsPoint) lines
all_lines [] some e = tt
all_lines (l ∷ ls) some e =
    let n = or_parts (is_empty l) (list_any is_empty ls) some in
    let s = all_split is_in_world l (joined ls) e in
    (full_line l n.0 s.0, all_lines ls n.1 s.1)

full_lines : (lines : List (List Point)) → is_hollow lines ≡ false
    → list_all is_in_world (joined lines) ≡ true → IsFull (IsFull FitsPoint) lines
full_lines [] some e = absurd (cc)
full_lines (l ∷ ls) some e = all_lines (l ∷ ls) some e

joined-append : {X : Type 0} (xs ys : List (List X)) → joined (xs ++ ys) ≡ joined xs ++ joined ys
joined-append xs ys = flat_map-append (λ x. x) xs ys

all_areas : (areas : List (List (List Point))) → list_any is_hollow areas ≡ false
    → list_all is_in_world (joined (joined areas)) ≡ true
    → AllByRecursion (IsFull (IsFull FitsPoint)) areas
all_areas [] some e = tt
all_areas (a ∷ areas) some e =
    let n = or_parts (is_hollow a) (list_any is_hollow areas) some in
    let s = all_split is_in_world (joined a) (joined (joined areas))
    (sym (ap (λ t. list_all is_in_world t) (joined-append a (joined areas))) ∙ e) in
    (full_lines a n.0 s.0, all_areas areas n.1 s.1)

full_areas : (areas : List (List (List Point)))
    → (is_empty areas || list_any is_hollow areas) ≡ false
    → list_all is_in_world (joined (joined areas)) ≡ true → IsFull (IsFull (IsFull FitsPoint)) areas
full_areas [] some e = absurd (cc)
full_areas (a ∷ areas) some e = all_areas (a ∷ areas) some e

body_spells : PrintsNumbers → (g : Geometry) → has_empty_list g ≡ false
    → list_all is_in_world (points_of g) ≡ true → SpellsBody (body_text g) g
body_spells numbers (geo.Point p) some e = lone_spells numbers p (points_fit (p ∷ []) e).0
body_spells numbers (geo.Line points) some e = line_spells numbers points (full_line points some e)
body_spells numbers (geo.Area rings) some e = rings_spell numbers rings (full_lines rings some e)
body_spells numbers (geo.ManyPoints points) some e =
    list_spells FitsPoint lone_text SpellsLoose (λ p fits. inr (lone_spells numbers p fits)) points
    (full_line points some e)
body_spells numbers (geo.ManyLines lines) some e =
    rings_spell numbers lines (full_lines lines some e)
body_spells numbers (geo.ManyAreas areas) some e =
    list_spells (IsFull (IsFull FitsPoint)) rings_text SpellsRings (rings_spell numbers) areas
    (full_areas areas some e)

-- a geometry without a fault has neither of the two
no_fault : (a b c d : Bool)
    → (if a then Some Many
    else (if not b then Some Range
    else (if c then Some Short else (if d then Some Ring else None)))) ≡ None
    → (b ≡ true) × (c ≡ false)
no_fault true b c d e = absurd (cc)
no_fault false false c d e = absurd (cc)
no_fault false true true d e = absurd (cc)
no_fault false true false d e = (refl, refl)

pub printed_spells : PrintsNumbers → (g : Geometry) → fault_of g ≡ None → SpellsText (printed g) g
printed_spells numbers g kept =
    let parts = no_fault _ _ _ _ kept in
    let some = or_parts (has_empty_list g) (list_any has_one_point (lines_of g)) parts.1 in record {
      name = keyword_text (keyword_of g);
      gap = 32 ∷ [];
      body = body_text g;
      named = refl;
      blanks = refl;
      spells = body_spells numbers g some.0 parts.0;
      written = refl;
    }

-- bytes of numbers are bytes of points
number_is_plain : (bytes : List ℕ) → list_all is_number_byte bytes ≡ true
    → list_all is_point_byte bytes ≡ true
number_is_plain [] e = refl
number_is_plain (b ∷ bytes) e =
    let each = and_parts (is_number_byte b) (list_all is_number_byte bytes) e in
    and_from (is_point_byte b) (list_all is_point_byte bytes)
    (ap (λ n. n || (is_ascii_uppercase b || (eqb b 40 || (eqb b 41 || eqb b 32)))) each.0)
    (number_is_plain bytes each.1)

joined_plain : (a b : List ℕ) → list_all is_point_byte a ≡ true → list_all is_point_byte b ≡ true
    → list_all is_point_byte (a ++ b) ≡ true
joined_plain a b first second =
    list_all-append is_point_byte a b
    ∙ and_from (list_all is_point_byte a) (list_all is_point_byte b) first second

position_plain : ((z : ℤ) → SFits w32 z → list_all is_number_byte (fixed_text z) ≡ true)
    → (p : Point) → FitsPoint p → list_all is_point_byte (position_text p) ≡ true
position_plain bytes p fits =
    joined_plain (fixed_text p.x) (32 ∷ fixed_text p.y)
    (number_is_plain (fixed_text p.x) (bytes p.x fits.x))
    (number_is_plain (fixed_text p.y) (bytes p.y fits.y))

in_world : (g : Geometry) → fault_of g ≡ None → list_all is_in_world (points_of g) ≡ true
in_world g kept = (no_fault _ _ _ _ kept).0

pub point_plain : ((z : ℤ) → SFits w32 z → list_all is_number_byte (fixed_text z) ≡ true)
    → (p : Point) → fault_of (geo.Point p) ≡ None
    → list_all is_point_byte (printed (geo.Point p)) ≡ true
point_plain bytes p kept =
    let fits = (points_fit (p ∷ []) (in_world (geo.Point p) kept)).0 in
    joined_plain (position_text p ++ []) (41 ∷ [])
    (joined_plain (position_text p) [] (position_plain bytes p fits) refl) refl
