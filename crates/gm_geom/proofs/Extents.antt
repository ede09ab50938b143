-- The extent of a list of points is its least box.
use Rattle.std.proofs.Common.{◌≡◌, Bool, true, false, ◌||◌, if◌then◌else◌, List, [], ◌∷◌, ◌++◌}
use Rattle.std.proofs.Common.{Option, Some, None, fold, refl, sym, subst, arith, rules}
use Rattle.std.specs.Option.{IsSome}
use Rattle.std.specs.List.{list_any}
use Rattle.std.proofs.lemmas.Int.{ints, clamps}
use Rattle.gm_geom.specs.declared.point.Point.{Point}
use Rattle.gm_geom.specs.declared.point.Box2.{Box2}
use Rattle.gm_geom.specs.declared.geometry.Geometry.{Geometry}
use Rattle.gm_geom.specs.declared.geometry.Geometry.TheVariants as geo
use Rattle.gm_geom.specs.declared.validity.GeomFault.TheVariants.{Many, Range, Short, Ring}
use Rattle.gm_geom.specs.Geometry.{points_of, lines_of, joined}
use Rattle.gm_geom.specs.Validity.{fault_of, is_empty, is_hollow, has_empty_list, has_one_point}
use Rattle.gm_geom.specs.Extent.{IsInBox, IsBoxInside, HoldsAll, IsLeastBox, widened, extent_of}
use Rattle.gm_geom.specs.Extent.{low_corner, high_corner}

-- what the extent of some points and a box is
record Grows (box : Box2) (points : List Point) (grown : Box2) : Type 0 where
  holds : HoldsAll grown points
  keeps : IsBoxInside grown box
  least : (other : Box2) → IsBoxInside other box → HoldsAll other points → IsBoxInside other grown

abbrev with_point : Box2 → Point → Box2
with_point box p = record { low = low_corner box.low p; high = high_corner box.high p }

keeps_box : (outer box : Box2) (p : Point) → IsBoxInside outer (with_point box p)
    → IsBoxInside outer box
keeps_box outer box p held = record {
  left = omega (arith, ints, clamps, held.left);
  right = omega (arith, ints, clamps, held.right);
  below = omega (arith, ints, clamps, held.below);
  above = omega (arith, ints, clamps, held.above);
}

keeps_point : (outer box : Box2) (p : Point) → IsBoxInside outer (with_point box p)
    → IsInBox outer p
keeps_point outer box p held = record {
  left = omega (arith, ints, clamps, held.left);
  right = omega (arith, ints, clamps, held.right);
  below = omega (arith, ints, clamps, held.below);
  above = omega (arith, ints, clamps, held.above);
}

keeps_both : (outer box : Box2) (p : Point) → IsBoxInside outer box → IsInBox outer p
    → IsBoxInside outer (with_point box p)
keeps_both outer box p held at = record {
  left = omega (arith, ints, clamps, held.left, at.left);
  right = omega (arith, ints, clamps, held.right, at.right);
  below = omega (arith, ints, clamps, held.below, at.below);
  above = omega (arith, ints, clamps, held.above, at.above);
}

itself : (box : Box2) → IsBoxInside box box
itself box = record {
  left = omega (arith, ints);
  right = omega (arith, ints);
  below = omega (arith, ints);
  above = omega (arith, ints);
}

grows : (box : Box2) (points : List Point) (grown : Box2)
    → fold widened (Some box) points ≡ Some grown → Grows box points grown
grows box [] grown e =
    let same : box ≡ grown = cc in
    let P : Box2 → Type 0 = λ b. Grows box [] b in
    subst P same (record { holds = tt; keeps = itself box; least = λ other inside _. inside })
grows box (p ∷ ps) grown e =
    let rest : Grows (with_point box p) ps grown = grows (with_point box p) ps grown e in record {
      holds = (keeps_point grown box p rest.keeps, rest.holds);
      keeps = keeps_box grown box p rest.keeps;
      least = λ other inside all. rest.least other (keeps_both other box p inside all.0) all.1;
    }

pub extent_is_least : (points : List Point) (box : Box2) → extent_of points ≡ Some box
    → IsLeastBox box points
extent_is_least [] box e = absurd (cc)
extent_is_least (p ∷ ps) box e =
    let rest : Grows (record { low = p; high = p }) ps box =
    grows (record { low = p; high = p }) ps box e in record {
      holds = (
        record {
          left = rest.keeps.left;
          right = rest.keeps.right;
          below = rest.keeps.below;
          above = rest.keeps.above;
        },
        rest.holds,
      );
      least = λ other all. rest.least other
          (record {
            left = all.0.left;
            right = all.0.right;
            below = all.0.below;
            above = all.0.above;
          }) all.1;
    }

grown_some : (box : Box2) (points : List Point) → IsSome (fold widened (Some box) points)
grown_some box [] = search rules
grown_some box (p ∷ ps) = grown_some (with_point box p) ps

-- a geometry that is kept has a list that is empty nowhere
third : (a b c d : Bool)
    → (if a then Some Many
    else (if b then Some Range else (if c then Some Short else (if d then Some Ring else None))))
    ≡ None → c ≡ false
third true b c d e = absurd (cc)
third false true c d e = absurd (cc)
third false false true d e = absurd (cc)
third false false false d e = refl

-- a list that has a member
abbrev IsInhabited : List Point → Type 0
IsInhabited points = (p : Point) × (ps : List Point) × (points ≡ p ∷ ps)

full_points : (points : List Point) (b : Bool) → (is_empty points || b) ≡ false → IsInhabited points
full_points [] b e = absurd (cc)
full_points (p ∷ ps) b e = (p, ps, refl)

full_lists : (lists : List (List Point)) (b : Bool) → (is_hollow lists || b) ≡ false
    → IsInhabited (joined lists)
full_lists [] b e = absurd (cc)
full_lists ([] ∷ lists) b e = absurd (cc)
full_lists ((p ∷ ps) ∷ lists) b e = (p, ps ++ joined lists, refl)

full_areas : (areas : List (List (List Point))) (b : Bool)
    → ((is_empty areas || list_any is_hollow areas) || b) ≡ false
    → IsInhabited (joined (joined areas))
full_areas [] b e = absurd (cc)
full_areas ([] ∷ areas) b e = absurd (cc)
full_areas (([] ∷ rings) ∷ areas) b e = absurd (cc)
full_areas (((p ∷ ps) ∷ rings) ∷ areas) b e = (p, ps ++ joined (rings ++ joined areas), refl)

full : (geometry : Geometry)
    → (has_empty_list geometry || list_any has_one_point (lines_of geometry)) ≡ false
    → IsInhabited (points_of geometry)
full (geo.Point p) e = (p, [], refl)
full (geo.Line points) e = full_points points _ e
full (geo.Area rings) e = full_lists rings _ e
full (geo.ManyPoints points) e = full_points points _ e
full (geo.ManyLines lines) e = full_lists lines _ e
full (geo.ManyAreas areas) e = full_areas areas _ e

-- a geometry that is kept has an extent
pub extent_some : (geometry : Geometry) → fault_of geometry ≡ None
    → IsSome (extent_of (points_of geometry))
extent_some geometry kept =
    let some : IsInhabited (points_of geometry) = full geometry (third _ _ _ _ kept) in
    let P : List Point → Type 0 = λ points. IsSome (extent_of points) in
    subst P (sym some.2) (grown_some (record { low = some.0; high = some.0 }) some.1)

some_is : {A : Type 0} (o : Option A) → IsSome o → (x : A) × (o ≡ Some x)
some_is None h = absurd (cc)
some_is (Some x) h = (x, refl)

pub extent_there : (geometry : Geometry) → fault_of geometry ≡ None
    → (extent : Box2) × (extent_of (points_of geometry) ≡ Some extent)
extent_there geometry kept =
    some_is (extent_of (points_of geometry)) (extent_some geometry kept)
