-- Geometries: what is read of one is spelled so, and the spelling of one that is kept is read.
use Rattle.std.proofs.Common.{◌≡◌, ℕ, ◌+◌, ◌^◌, ◌<◌, ◌≤◌, ℤ, pos, negsuc, Bool, true, false, ◌&&◌}
use Rattle.std.proofs.Common.{cond, eqb, List, [], ◌∷◌, ◌++◌, length, Option, Some, None, ◌⊎◌, inl}
use Rattle.std.proofs.Common.{inr, refl, sym, ap, subst, ◌∙◌, append_assoc, length-append, arith}
use Rattle.std.specs.Prelude.{is_none}
use Rattle.std.specs.Int.{w32, to_be_bytes}
use Rattle.std.specs.Int.RustNames.{FitsSigned}
use Rattle.std.specs.List.{list_all, flat_map, AllByRecursion}
use Rattle.std.proofs.lemmas.Bool.{eqb-true, and_parts}
use Rattle.std.proofs.lemmas.Grind.{common_steps}
use Rattle.gm_base.proofs.Options.{none_is}
use Rattle.gm_geom.specs.declared.geometry.Geometry.{Geometry}
use Rattle.gm_geom.specs.declared.geometry.Geometry.TheVariants as geo
use Rattle.gm_geom.specs.declared.point.Point.{Point}
use Rattle.gm_geom.specs.Geometry.{joined}
use Rattle.gm_geom.specs.Validity.{fault_of, is_within, is_in_world}
use Rattle.gm_types.specs.declared.kind.GeoKind.{GeoKind}
use Rattle.gm_feature.specs.Reader.{◌>>=◌, only_if, made, signed_from, point_from, points_from}
use Rattle.gm_feature.specs.Reader.{lines_from, areas_from, body_from, geometry_from}
use Rattle.gm_feature.specs.Shape.{has_shape}
use Rattle.gm_feature.specs.Writer.{signed_bytes, list_bytes, point_bytes, points_bytes}
use Rattle.gm_feature.specs.Writer.{lines_bytes, areas_bytes, shape_byte, body_bytes}
use Rattle.gm_feature.specs.Writer.{geometry_bytes, AreCountedLines, AreCountedAreas}
use Rattle.gm_feature.proofs.Fields.{IsBytes, IsBytes-rest, bind_some, only_some, made_some}
use Rattle.gm_feature.proofs.Fields.{some_is, Takes, Takes-then, Takes-behind, wide32, signed_takes}
use Rattle.gm_feature.proofs.Fields.{signed_again, Reads, ReadsAgain, IsGoodList, list_takes}
use Rattle.gm_feature.proofs.Fields.{list_again}
use Rattle.gm_feature.proofs.Kept.{IsKept, kept, counted_lines, counted_areas, few_lines}

-- ---- points

world_fits : (n : ℕ) (z : ℤ) → n < 2 ^ 31 → is_within n z ≡ true → FitsSigned w32 z
world_fits n (pos m) small within = grind (arith, common_steps)
world_fits n (negsuc m) small within = grind (arith, common_steps)

fits_x : (p : Point) → is_in_world p ≡ true → FitsSigned w32 p.x
fits_x p within =
    world_fits 1800000000 p.x (omega arith)
    (and_parts (is_within 1800000000 p.x) (is_within 900000000 p.y) within).0

fits_y : (p : Point) → is_in_world p ≡ true → FitsSigned w32 p.y
fits_y p within =
    world_fits 900000000 p.y (omega arith)
    (and_parts (is_within 1800000000 p.x) (is_within 900000000 p.y) within).1

point_takes : Reads point_from point_bytes
unfolding point_from
point_takes bytes x fits e =
    let a = bind_some (signed_from w32 bytes)
    (λ h. signed_from w32 h.1 >>= λ v. Some (record { x = h.0; y = v.0 }, v.1)) x e in
    let b = bind_some (signed_from w32 a.0.1)
    (λ v. Some (record { x = a.0.0; y = v.0 }, v.1)) x a.2 in
    let first = signed_takes w32 wide32 bytes a.0 fits a.1 in
    let second = signed_takes w32 wide32 a.0.1 b.0 first.0.rest_fits b.1 in
    let both = Takes-then bytes (signed_bytes w32 a.0.0) a.0.1 (signed_bytes w32 b.0.0) b.0.1
    first.0 second.0 in
    let point : Point × List ℕ = (record { x = a.0.0; y = b.0.0 }, b.0.1) in
    subst (λ (y : Point × List ℕ). Takes bytes (point_bytes y.0) y.1) (some_is point x b.2) both

abbrev IsPlaced : Point → Type 0
IsPlaced p = is_in_world p ≡ true

point_again : ReadsAgain point_from point_bytes IsPlaced
unfolding point_from
point_again p rest placed =
    rw (
      append_assoc (signed_bytes w32 p.x) (signed_bytes w32 p.y) rest,
      signed_again w32 wide32 p.x (signed_bytes w32 p.y ++ rest) (fits_x p placed),
      signed_again w32 wide32 p.y rest (fits_y p placed),
    ) refl

point_long : (p : Point) → 8 ≤ length (point_bytes p)
point_long p = omega arith

list_long : {X : Type 0} (spell : X → List ℕ) (xs : List X) → 4 ≤ length (list_bytes spell xs)
list_long spell xs = omega (arith, length-append (to_be_bytes w32 (length xs)) (flat_map spell xs))

-- ---- lists

points_takes : Reads points_from points_bytes
unfolding points_from
points_takes bytes x fits e = list_takes 8 point_from point_bytes point_takes bytes x fits e

lines_takes : Reads lines_from lines_bytes
unfolding lines_from
lines_takes bytes x fits e = list_takes 4 points_from points_bytes points_takes bytes x fits e

areas_takes : Reads areas_from areas_bytes
unfolding areas_from
areas_takes bytes x fits e = list_takes 4 lines_from lines_bytes lines_takes bytes x fits e

abbrev ArePlaced : List Point → Type 0
ArePlaced points = IsGoodList IsPlaced points

abbrev ArePlacedLines : List (List Point) → Type 0
ArePlacedLines lines = IsGoodList ArePlaced lines

abbrev ArePlacedAreas : List (List (List Point)) → Type 0
ArePlacedAreas areas = IsGoodList ArePlacedLines areas

points_again : ReadsAgain points_from points_bytes ArePlaced
unfolding points_from
points_again points rest placed =
    list_again 8 point_from point_bytes IsPlaced point_long point_again points rest placed

lines_again : ReadsAgain lines_from lines_bytes ArePlacedLines
unfolding lines_from
lines_again lines rest placed =
    list_again 4 points_from points_bytes ArePlaced (list_long point_bytes) points_again
    lines rest placed

areas_again : ReadsAgain areas_from areas_bytes ArePlacedAreas
unfolding areas_from
areas_again areas rest placed =
    list_again 4 lines_from lines_bytes ArePlacedLines (list_long points_bytes) lines_again
    areas rest placed

-- ---- the points of a geometry that is kept are placed

each_placed : (points : List Point) → list_all is_in_world points ≡ true
    → AllByRecursion IsPlaced points
each_placed [] within = tt
each_placed (p ∷ points) within =
    let parts = and_parts (is_in_world p) (list_all is_in_world points) within in
    (parts.0, each_placed points parts.1)

placed : (points : List Point) → list_all is_in_world points ≡ true → length points ≤ 10000
    → ArePlaced points
placed points within few = (omega arith, each_placed points within)

all_in-append : (xs ys : List Point) → list_all is_in_world (xs ++ ys) ≡ true
    → (list_all is_in_world xs ≡ true) × (list_all is_in_world ys ≡ true)
all_in-append [] ys within = (refl, within)
all_in-append (x ∷ xs) ys within =
    let parts = and_parts (is_in_world x) (list_all is_in_world (xs ++ ys)) within in
    let later = all_in-append xs ys parts.1 in
    (ap (λ b. b && list_all is_in_world xs) parts.0 ∙ later.0, later.1)

each_line_placed : (lines : List (List Point)) → list_all is_in_world (joined lines) ≡ true
    → length (joined lines) ≤ 10000 → AllByRecursion ArePlaced lines
each_line_placed [] within few = tt
each_line_placed (points ∷ lines) within few =
    let parts = all_in-append points (joined lines) within in
    let sum = length-append points (joined lines) in
    (placed points parts.0 (omega arith), each_line_placed lines parts.1 (omega arith))

pub joined-append : (xs ys : List (List Point)) → joined (xs ++ ys) ≡ joined xs ++ joined ys
joined-append [] ys = refl
joined-append (x ∷ xs) ys =
    ap (λ (rest : List Point). x ++ rest) (joined-append xs ys)
    ∙ sym (append_assoc x (joined xs) (joined ys))

each_area_placed : (areas : List (List (List Point)))
    → list_all is_in_world (joined (joined areas)) ≡ true → length (joined (joined areas)) ≤ 10000
    → length (joined areas) ≤ 10000 → AllByRecursion ArePlacedLines areas
each_area_placed [] within few short = tt
each_area_placed (rings ∷ areas) within few short =
    let same = joined-append rings (joined areas) in
    let parts = all_in-append (joined rings) (joined (joined areas))
    (subst (λ (points : List Point). list_all is_in_world points ≡ true) same within) in
    let sum : length (joined (rings ++ joined areas))
    ≡ length (joined rings) + length (joined (joined areas)) =
    ap length same ∙ length-append (joined rings) (joined (joined areas)) in
    let count = length-append rings (joined areas) in (
      (omega arith, each_line_placed rings parts.0 (omega arith)),
      each_area_placed areas parts.1 (omega arith) (omega arith),
    )

placed_lines : (lines : List (List Point)) → list_all is_in_world (joined lines) ≡ true
    → length (joined lines) ≤ 10000 → AreCountedLines lines → ArePlacedLines lines
placed_lines lines within few counted = (counted.0, each_line_placed lines within few)

placed_areas : (areas : List (List (List Point)))
    → list_all is_in_world (joined (joined areas)) ≡ true → length (joined (joined areas)) ≤ 10000
    → length (joined areas) ≤ 10000 → AreCountedAreas areas → ArePlacedAreas areas
placed_areas areas within few short counted = (counted.0, each_area_placed areas within few short)

-- ---- bodies

either : {B : Type 0} (b : Bool) (p q : Option B) (y : B) → cond b p q ≡ Some y
    → ((b ≡ true) × (p ≡ Some y)) ⊎ ((b ≡ false) × (q ≡ Some y))
either true p q y e = inl (refl, e)
either false p q y e = inr (refl, e)

branch_takes : {A : Type 0} (read : List ℕ → Option (A × List ℕ)) (spell : A → List ℕ)
    (reads : Reads read spell) (n : ℕ) (make : A → Geometry)
    → ((a : A) → geometry_bytes (make a) ≡ n ∷ spell a)
    → (tag : ℕ) (bytes : List ℕ) (x : Geometry × List ℕ) → IsBytes bytes
    → eqb tag n ≡ true → made make (read bytes) ≡ Some x
    → Takes (tag ∷ bytes) (geometry_bytes x.0) x.1
branch_takes read spell reads n make spelled tag bytes x fits is e =
    let same : tag ≡ n = eqb-true tag n is in
    let m = made_some make (read bytes) x e in
    let t = Takes-behind n bytes (spell m.0.0) m.0.1 (reads bytes m.0 fits m.1) in
    let whole : Takes (tag ∷ bytes) (geometry_bytes (make m.0.0)) m.0.1 =
    record {
      parts = ap (λ (k : ℕ). k ∷ bytes) same ∙ t.parts
          ∙ ap (λ (w : List ℕ). w ++ m.0.1) (sym (spelled m.0.0));
      rest_fits = t.rest_fits;
    } in
    subst (λ (y : Geometry × List ℕ). Takes (tag ∷ bytes) (geometry_bytes y.0) y.1) m.2 whole

abbrev Bodies : Type 0
Bodies = Option (Geometry × List ℕ)

abbrev from_6 : ℕ → List ℕ → Bodies
from_6 tag bytes = cond (eqb tag 6) (made (λ p. geo.ManyAreas p) (areas_from bytes)) None

abbrev from_5 : ℕ → List ℕ → Bodies
from_5 tag bytes =
    cond (eqb tag 5) (made (λ p. geo.ManyLines p) (lines_from bytes)) (from_6 tag bytes)

abbrev from_4 : ℕ → List ℕ → Bodies
from_4 tag bytes =
    cond (eqb tag 4) (made (λ p. geo.ManyPoints p) (points_from bytes)) (from_5 tag bytes)

abbrev from_3 : ℕ → List ℕ → Bodies
from_3 tag bytes = cond (eqb tag 3) (made (λ p. geo.Area p) (lines_from bytes)) (from_4 tag bytes)

abbrev from_2 : ℕ → List ℕ → Bodies
from_2 tag bytes = cond (eqb tag 2) (made (λ p. geo.Line p) (points_from bytes)) (from_3 tag bytes)

takes_6 : (tag : ℕ) (bytes : List ℕ) (x : Geometry × List ℕ) → IsBytes bytes
    → from_6 tag bytes ≡ Some x → Takes (tag ∷ bytes) (geometry_bytes x.0) x.1
takes_6 tag bytes x fits e =
    elim (either (eqb tag 6) (made (λ p. geo.ManyAreas p) (areas_from bytes)) None x e) [
      | inl h ↦ branch_takes areas_from areas_bytes areas_takes 6 (λ p. geo.ManyAreas p) (λ a. refl)
          tag bytes x fits h.0 h.1
      | inr h ↦ absurd (let no = h.1 in cc)
    ]

takes_5 : (tag : ℕ) (bytes : List ℕ) (x : Geometry × List ℕ) → IsBytes bytes
    → from_5 tag bytes ≡ Some x → Takes (tag ∷ bytes) (geometry_bytes x.0) x.1
takes_5 tag bytes x fits e =
    elim (either (eqb tag 5) (made (λ p. geo.ManyLines p) (lines_from bytes))
    (from_6 tag bytes) x e) [
      | inl h ↦ branch_takes lines_from lines_bytes lines_takes 5 (λ p. geo.ManyLines p) (λ a. refl)
          tag bytes x fits h.0 h.1
      | inr h ↦ takes_6 tag bytes x fits h.1
    ]

takes_4 : (tag : ℕ) (bytes : List ℕ) (x : Geometry × List ℕ) → IsBytes bytes
    → from_4 tag bytes ≡ Some x → Takes (tag ∷ bytes) (geometry_bytes x.0) x.1
takes_4 tag bytes x fits e =
    elim (either (eqb tag 4) (made (λ p. geo.ManyPoints p) (points_from bytes))
    (from_5 tag bytes) x e) [
      | inl h ↦ branch_takes points_from points_bytes points_takes 4 (λ p. geo.ManyPoints p)
          (λ a. refl) tag bytes x fits h.0 h.1
      | inr h ↦ takes_5 tag bytes x fits h.1
    ]

takes_3 : (tag : ℕ) (bytes : List ℕ) (x : Geometry × List ℕ) → IsBytes bytes
    → from_3 tag bytes ≡ Some x → Takes (tag ∷ bytes) (geometry_bytes x.0) x.1
takes_3 tag bytes x fits e =
    elim (either (eqb tag 3) (made (λ p. geo.Area p) (lines_from bytes)) (from_4 tag bytes) x e) [
      | inl h ↦ branch_takes lines_from lines_bytes lines_takes 3 (λ p. geo.Area p) (λ a. refl) tag
          bytes x fits h.0 h.1
      | inr h ↦ takes_4 tag bytes x fits h.1
    ]

takes_2 : (tag : ℕ) (bytes : List ℕ) (x : Geometry × List ℕ) → IsBytes bytes
    → from_2 tag bytes ≡ Some x → Takes (tag ∷ bytes) (geometry_bytes x.0) x.1
takes_2 tag bytes x fits e =
    elim (either (eqb tag 2) (made (λ p. geo.Line p) (points_from bytes)) (from_3 tag bytes) x e) [
      | inl h ↦ branch_takes points_from points_bytes points_takes 2 (λ p. geo.Line p) (λ a. refl)
          tag bytes x fits h.0 h.1
      | inr h ↦ takes_3 tag bytes x fits h.1
    ]

body_takes : (tag : ℕ) (bytes : List ℕ) (x : Geometry × List ℕ) → IsBytes bytes
    → body_from tag bytes ≡ Some x → Takes (tag ∷ bytes) (geometry_bytes x.0) x.1
unfolding body_from
body_takes tag bytes x fits e =
    elim (either (eqb tag 1) (made (λ p. geo.Point p) (point_from bytes)) (from_2 tag bytes) x e) [
      | inl h ↦ branch_takes point_from point_bytes point_takes 1 (λ p. geo.Point p) (λ a. refl) tag
          bytes x fits h.0 h.1
      | inr h ↦ takes_2 tag bytes x fits h.1
    ]

body_again : (g : Geometry) (rest : List ℕ) → IsKept g
    → body_from (shape_byte g) (body_bytes g ++ rest) ≡ Some (g, rest)
unfolding body_from
body_again (geo.Point p) rest k =
    rw (point_again p rest (and_parts (is_in_world p) true k.in_world).0) refl
body_again (geo.Line points) rest k =
    rw (points_again points rest (placed points k.in_world k.few)) refl
body_again (geo.Area rings) rest k =
    rw (lines_again rings rest
    (placed_lines rings k.in_world k.few (counted_lines rings k.few k.filled))) refl
body_again (geo.ManyPoints points) rest k =
    rw (points_again points rest (placed points k.in_world k.few)) refl
body_again (geo.ManyLines lines) rest k =
    rw (lines_again lines rest
    (placed_lines lines k.in_world k.few (counted_lines lines k.few k.filled))) refl
body_again (geo.ManyAreas areas) rest k =
    rw (areas_again areas rest
    (placed_areas areas k.in_world k.few (few_lines areas k.few k.filled)
    (counted_areas areas k.few k.filled))) refl

-- ---- geometries

pub geometry_takes : (shape : GeoKind) (bytes : List ℕ) (x : Geometry × List ℕ) → IsBytes bytes
    → geometry_from shape bytes ≡ Some x
    → Takes bytes (geometry_bytes x.0) x.1
    × ((has_shape shape x.0 && is_none (fault_of x.0)) ≡ true)
unfolding geometry_from
geometry_takes shape [] x fits e = absurd cc
geometry_takes shape (tag ∷ bytes) x fits e =
    let a = bind_some (body_from tag bytes)
    (λ g. only_if (has_shape shape g.0 && is_none (fault_of g.0)) g) x e in
    let o = only_some (has_shape shape a.0.0 && is_none (fault_of a.0.0)) a.0 x a.2 in
    subst (λ (y : Geometry × List ℕ). Takes (tag ∷ bytes) (geometry_bytes y.0) y.1
    × ((has_shape shape y.0 && is_none (fault_of y.0)) ≡ true)) o.1
    (body_takes tag bytes a.0 (IsBytes-rest tag bytes fits) a.1, o.0)

pub geometry_again : (shape : GeoKind) (g : Geometry) (rest : List ℕ)
    → (has_shape shape g && is_none (fault_of g)) ≡ true
    → geometry_from shape (geometry_bytes g ++ rest) ≡ Some (g, rest)
unfolding geometry_from
geometry_again shape g rest fits =
    let sound =
    none_is (fault_of g) (and_parts (has_shape shape g) (is_none (fault_of g)) fits).1 in
    rw (body_again g rest (kept g sound), fits) refl
