-- Values and boxes of features that fit.
use Rattle.std.proofs.Common.{◌≡◌, ℕ, zero, suc, ◌≤ℤ◌, ℤ, pos, negsuc, neg_ℤ, ◌≤◌, ◌<◌, Bool, not}
use Rattle.std.proofs.Common.{if◌then◌else◌, true, false, List, [], ◌∷◌, get_or, Option, Some}
use Rattle.std.proofs.Common.{None, refl, sym, ap, ◌∙◌, arith}
use Rattle.std.proofs.lemmas.Int.{ints}
use Rattle.std.proofs.lemmas.Grind.{common_steps}
use Rattle.std.specs.List.{list_all}
use Rattle.std.proofs.lemmas.Bool.{and_parts, and_from}
use Rattle.gm_base.proofs.Options.{none_is}
use Rattle.gm_geom.specs.declared.point.Point.{Point}
use Rattle.gm_geom.specs.declared.point.Box2.{Box2}
use Rattle.gm_geom.specs.Extent.{IsInBox, IsLeastBox, HoldsAll, extent_of}
use Rattle.gm_geom.specs.Validity.{is_in_world, is_within, fault_of}
use Rattle.gm_geom.specs.declared.geometry.Geometry.{Geometry}
use Rattle.gm_geom.specs.declared.validity.GeomFault.{GeomFault}
use Rattle.gm_geom.specs.declared.validity.GeomFault.TheVariants.{Many, Range}
use Rattle.gm_geom.specs.Geometry.{points_of}
use Rattle.gm_types.specs.declared.kind.Kind.{Kind}
use Rattle.gm_feature.specs.declared.value.Value.{Value}
use Rattle.gm_feature.specs.declared.value.Value.TheVariants as value
use Rattle.gm_feature.specs.Feature.{values_fit}
use Rattle.gm_feature.specs.Value.{is_sound}
use Rattle.gm_keys.specs.Cell.{IsBoxInWorld}

-- each value of a feature that fits is sound
pub sound_at : (kinds : List Kind) (values : List Value) (n : ℕ) → values_fit kinds values ≡ true
    → is_sound (get_or values n value.Null) ≡ true
sound_at kinds [] n fit = refl
sound_at [] (v ∷ values) n fit = cc
sound_at (k ∷ kinds) (v ∷ values) zero fit = (and_parts _ _ (and_parts _ _ fit).0).1
sound_at (k ∷ kinds) (v ∷ values) (suc n) fit = sound_at kinds values n (and_parts _ _ fit).1

-- a geometry among them is kept
pub kept_at : (kinds : List Kind) (values : List Value) (n : ℕ) (v : Value) (g : Geometry)
    → values_fit kinds values ≡ true → v ≡ value.Geo g → v ≡ get_or values n value.Null
    → fault_of g ≡ None
kept_at kinds values n v g fit is at =
    none_is (fault_of g) (ap is_sound (sym is ∙ at) ∙ sound_at kinds values n fit)

-- ---- boxes
from_within : (n : ℕ) (z : ℤ) → is_within n z ≡ true → (neg_ℤ (pos n) ≤ℤ z) × (z ≤ℤ pos n)
from_within n (pos m) is = let small : m ≤ n = grind (arith, common_steps) in
    (omega (arith, ints), omega (arith, ints))
from_within n (negsuc m) is = let small : m < n = grind (arith, common_steps) in
    (omega (arith, ints), omega (arith, ints))

to_within : (n : ℕ) (z : ℤ) → neg_ℤ (pos n) ≤ℤ z → z ≤ℤ pos n → is_within n z ≡ true
to_within n (pos m) low high = let small : m ≤ n = omega (arith, ints) in
    grind (arith, common_steps)
to_within n (negsuc m) low high = let small : m < n = omega (arith, ints) in
    grind (arith, common_steps)

-- the box of the world
abbrev world : Box2
world = record {
  low = record { x = neg_ℤ (pos 1800000000); y = neg_ℤ (pos 900000000) };
  high = record { x = pos 1800000000; y = pos 900000000 };
}

in_world_box : (p : Point) → is_in_world p ≡ true → IsInBox world p
in_world_box p within =
    let x = from_within 1800000000 p.x (and_parts _ _ within).0 in
    let y = from_within 900000000 p.y (and_parts _ _ within).1 in
    record { left = x.0; right = x.1; below = y.0; above = y.1 }

all_in_world : (points : List Point) → list_all is_in_world points ≡ true → HoldsAll world points
all_in_world [] all = tt
all_in_world (p ∷ points) all =
    (in_world_box p (and_parts _ _ all).0, all_in_world points (and_parts _ _ all).1)

corner : (p : Point) → neg_ℤ (pos 1800000000) ≤ℤ p.x → p.x ≤ℤ pos 1800000000
    → neg_ℤ (pos 900000000) ≤ℤ p.y → p.y ≤ℤ pos 900000000 → is_in_world p ≡ true
corner p left right below above =
    and_from _ _ (to_within 1800000000 p.x left right) (to_within 900000000 p.y below above)

pub extent_in_world : (points : List Point) (box : Box2) → list_all is_in_world points ≡ true
    → extent_of points ≡ Some box → IsLeastBox box points → IsBoxInWorld box
extent_in_world [] box all is least = cc
extent_in_world (p ∷ points) box all is least =
    let inside = least.least world (all_in_world (p ∷ points) all) in
    let here = least.holds.0 in
    let wide : box.low.x ≤ℤ box.high.x = omega (arith, ints, here.left, here.right) in
    let tall : box.low.y ≤ℤ box.high.y = omega (arith, ints, here.below, here.above) in
    record {
      low = corner box.low inside.left (omega (arith, ints, wide, inside.right)) inside.below
          (omega (arith, ints, tall, inside.above));
      high = corner box.high (omega (arith, ints, wide, inside.left)) inside.right
          (omega (arith, ints, tall, inside.below)) inside.above;
      wide = wide;
      tall = tall;
    }

-- a kept geometry lies in the world
in_world_if : (many : Bool) (all : Bool) (rest : Option GeomFault)
    → (if many then Some Many else (if not all then Some Range else rest)) ≡ None → all ≡ true
in_world_if true all rest none = cc
in_world_if false true rest none = refl
in_world_if false false rest none = cc

pub kept_in_world : (g : Geometry) → fault_of g ≡ None → list_all is_in_world (points_of g) ≡ true
kept_in_world g kept = in_world_if _ _ _ kept
