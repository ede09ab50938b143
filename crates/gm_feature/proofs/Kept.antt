-- What a geometry that is kept has: at most 10,000 points, in the world, in lists of which none is
-- empty.
use Rattle.std.proofs.Common.{◌≡◌, ℕ, ◌+◌, ◌^◌, ◌<◌, ◌≤◌, Bool, true, false, not, ◌||◌, cond, ltb}
use Rattle.std.proofs.Common.{List, [], ◌∷◌, ◌++◌, length, All, Option, Some, None, refl, sym, ap}
use Rattle.std.proofs.Common.{◌∙◌, arith, length-append}
use Rattle.std.specs.List.{list_all, list_any}
use Rattle.std.proofs.lemmas.Bool.{ltb-false}
use Rattle.std.proofs.lemmas.List.Concat.{flat_map-append}
use Rattle.std.proofs.lemmas.List.Elements.{All-nil, All-cons}
use Rattle.gm_base.proofs.Booleans.{true_of_not, neither_of}
use Rattle.gm_geom.specs.declared.geometry.Geometry.{Geometry}
use Rattle.gm_geom.specs.declared.geometry.Geometry.TheVariants as geo
use Rattle.gm_geom.specs.declared.point.Point.{Point}
use Rattle.gm_geom.specs.declared.validity.GeomFault.{GeomFault}
use Rattle.gm_geom.specs.declared.validity.GeomFault.TheVariants.{Many, Range, Short, Ring}
use Rattle.gm_geom.specs.Geometry.{joined, points_of, lines_of, rings_of}
use Rattle.gm_geom.specs.Validity.{fault_of, is_in_world, is_empty, is_hollow, has_empty_list}
use Rattle.gm_geom.specs.Validity.{has_one_point, is_closed}
use Rattle.gm_feature.specs.Writer.{AreCountedLines, AreCountedAreas}

pub record IsKept (g : Geometry) : Type 0 where
  pub few : length (points_of g) ≤ 10000
  pub in_world : list_all is_in_world (points_of g) ≡ true
  pub filled : has_empty_list g ≡ false

-- a test that found no fault
guard : (b : Bool) (fault : GeomFault) (rest : Option GeomFault) → cond b (Some fault) rest ≡ None
    → (b ≡ false) × (rest ≡ None)
guard true fault rest e = absurd cc
guard false fault rest e = (refl, e)

pub kept : (g : Geometry) → fault_of g ≡ None → IsKept g
kept g e =
    let many = guard (ltb 10000 (length (points_of g))) Many
    (cond (not (list_all is_in_world (points_of g))) (Some Range)
    (cond (has_empty_list g || list_any has_one_point (lines_of g)) (Some Short)
    (cond (not (list_all is_closed (rings_of g))) (Some Ring) None))) e in
    let range = guard (not (list_all is_in_world (points_of g))) Range
    (cond (has_empty_list g || list_any has_one_point (lines_of g)) (Some Short)
    (cond (not (list_all is_closed (rings_of g))) (Some Ring) None)) many.1 in
    let short = guard (has_empty_list g || list_any has_one_point (lines_of g)) Short
    (cond (not (list_all is_closed (rings_of g))) (Some Ring) None) range.1 in
    record {
      few = ltb-false _ _ many.0;
      in_world = true_of_not (list_all is_in_world (points_of g)) range.0;
      filled = (neither_of (has_empty_list g) (list_any has_one_point (lines_of g)) short.0).0;
    }

some_in : {X : Type 0} (xs : List X) → is_empty xs ≡ false → 1 ≤ length xs
some_in [] e = absurd cc
some_in (x ∷ xs) e = omega arith

-- lists of which none is empty are at most as many as their members
pub no_more_lists : {X : Type 0} (xss : List (List X)) → list_any is_empty xss ≡ false
    → length xss ≤ length (joined xss)
no_more_lists [] e = omega arith
no_more_lists (xs ∷ xss) e =
    let parts = neither_of (is_empty xs) (list_any is_empty xss) e in
    let here = some_in xs parts.0 in
    let later = no_more_lists xss parts.1 in
    omega (arith, length-append xs (joined xss))

-- each list has at most as many members as all together
short_lists : {X : Type 0} (n : ℕ) (xss : List (List X)) → length (joined xss) ≤ n → n < 2 ^ 32
    → All (λ xs. length xs < 2 ^ 32) xss
short_lists n [] le lt = All-nil (λ xs. length xs < 2 ^ 32)
short_lists n (xs ∷ xss) le lt =
    let sum = length-append xs (joined xss) in
    All-cons (λ ys. length ys < 2 ^ 32) xs xss (omega arith) (short_lists n xss (omega arith) lt)

pub counted_lines : (lines : List (List Point)) → length (joined lines) ≤ 10000
    → is_hollow lines ≡ false → AreCountedLines lines
counted_lines lines few filled =
    let parts = neither_of (is_empty lines) (list_any is_empty lines) filled in
    let no_more = no_more_lists lines parts.1 in
    (omega arith, short_lists 10000 lines few (omega arith))

none_hollow : {X : Type 0} (xsss : List (List (List X))) → list_any is_hollow xsss ≡ false
    → (list_any is_empty xsss ≡ false) × (list_any is_empty (joined xsss) ≡ false)
none_hollow [] e = (refl, refl)
none_hollow (xss ∷ xsss) e =
    let parts = neither_of (is_hollow xss) (list_any is_hollow xsss) e in
    let here = neither_of (is_empty xss) (list_any is_empty xss) parts.0 in
    let later = none_hollow xsss parts.1 in (
      ap (λ b. b || list_any is_empty xsss) here.0
          ∙ later.0,
      none_of_two xss (joined xsss) here.1 later.1,
    )
  where
    none_of_two : {X : Type 0} (xs ys : List (List X)) → list_any is_empty xs ≡ false
        → list_any is_empty ys ≡ false → list_any is_empty (xs ++ ys) ≡ false
    none_of_two [] ys e f = f
    none_of_two (x ∷ xs) ys e f =
        let parts = neither_of (is_empty x) (list_any is_empty xs) e in
        ap (λ b. b || list_any is_empty (xs ++ ys)) parts.0 ∙ none_of_two xs ys parts.1 f

-- what two lists of lists have together
pub length-joined : {X : Type 0} (xss yss : List (List X))
    → length (joined (xss ++ yss)) ≡ length (joined xss) + length (joined yss)
length-joined {X = X} xss yss =
    ap length (flat_map-append (λ (xs : List X). xs) xss yss)
    ∙ length-append (joined xss) (joined yss)

each_counted : (areas : List (List (List Point))) → length (joined (joined areas)) ≤ 10000
    → list_any is_hollow areas ≡ false → All AreCountedLines areas
each_counted [] few filled = All-nil AreCountedLines
each_counted (rings ∷ areas) few filled =
    let parts = neither_of (is_hollow rings) (list_any is_hollow areas) filled in
    let sum = length-joined rings (joined areas) in
    All-cons AreCountedLines rings areas (counted_lines rings (omega arith) parts.0)
    (each_counted areas (omega arith) parts.1)

-- lists of lists that have few members in all are few, and true_of_not are the lists in them
pub few_in_two : (areas : List (List (List Point))) → length (joined (joined areas)) ≤ 10000
    → list_any is_hollow areas ≡ false
    → (length areas ≤ length (joined areas))
    × (length (joined areas) ≤ length (joined (joined areas)))
few_in_two areas few filled =
    let none = none_hollow areas filled in
    (no_more_lists areas none.0, no_more_lists (joined areas) none.1)

pub counted_areas : (areas : List (List (List Point))) → length (joined (joined areas)) ≤ 10000
    → (is_empty areas || list_any is_hollow areas) ≡ false → AreCountedAreas areas
counted_areas areas few filled =
    let parts = neither_of (is_empty areas) (list_any is_hollow areas) filled in
    let no_more = few_in_two areas few parts.1 in
    (omega arith, each_counted areas few parts.1)

-- the lists of lists of lists have few lists in all
pub few_lines : (areas : List (List (List Point))) → length (joined (joined areas)) ≤ 10000
    → (is_empty areas || list_any is_hollow areas) ≡ false → length (joined areas) ≤ 10000
few_lines areas few filled =
    let parts = neither_of (is_empty areas) (list_any is_hollow areas) filled in
    let no_more = few_in_two areas few parts.1 in
    omega arith

-- the lists of a geometry that is kept are counted in four bytes
pub counted_rings : (g : Geometry) (rings : List (List Point)) → g ≡ geo.Area rings
    → fault_of g ≡ None → AreCountedLines rings
counted_rings g rings is none =
    let k = kept (geo.Area rings) (ap fault_of (sym is) ∙ none) in
    counted_lines rings k.few k.filled

pub counted_many_lines : (g : Geometry) (lines : List (List Point)) → g ≡ geo.ManyLines lines
    → fault_of g ≡ None → AreCountedLines lines
counted_many_lines g lines is none =
    let k = kept (geo.ManyLines lines) (ap fault_of (sym is) ∙ none) in
    counted_lines lines k.few k.filled

pub counted_many_areas : (g : Geometry) (areas : List (List (List Point))) → g ≡ geo.ManyAreas areas
    → fault_of g ≡ None → AreCountedAreas areas
counted_many_areas g areas is none =
    let k = kept (geo.ManyAreas areas) (ap fault_of (sym is) ∙ none) in
    counted_areas areas k.few k.filled
