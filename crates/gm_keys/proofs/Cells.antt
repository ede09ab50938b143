-- Cells of boxes whose corners do not fall.
use Rattle.std.proofs.Common.{◌≡◌, ◌≤◌, ◌<◌, ℕ, zero, suc, ◌^◌, ℤ, pos, negsuc, ◌+ℤ◌, ◌≤ℤ◌}
use Rattle.std.proofs.Common.{true, [], ◌∷◌, refl, arith}
use Rattle.std.proofs.lemmas.Int.{to_z-of_z, ints}
use Rattle.std.proofs.lemmas.Grind.{common_steps}
use mir.Val.{SFits, of_z, to_z}
use mir.Syntax.{w32}
use Rattle.std.proofs.lemmas.Bool.{and_parts}
use Rattle.gm_curve.specs.Curve.{IsAtMost}
use Rattle.gm_curve.specs.Scale.{normal_of}
use Rattle.gm_geom.specs.Validity.{is_within, is_in_world}
use Rattle.gm_geom.specs.declared.point.Point.{Point}
use Rattle.gm_keys.specs.Cell.{natural, along, longitude_cell, latitude_cell}

world_fits : (n : ℕ) (z : ℤ) → n < 2 ^ 31 → is_within n z ≡ true → SFits w32 z
world_fits n (pos m) small within = grind (arith, common_steps)
world_fits n (negsuc m) small within = grind (arith, common_steps)

pub same_x : (p : Point) → is_in_world p ≡ true → to_z w32 (of_z w32 p.x) ≡ p.x
same_x p within =
    to_z-of_z w32 p.x (world_fits 1800000000 p.x (omega arith) (and_parts _ _ within).0)

pub same_y : (p : Point) → is_in_world p ≡ true → to_z w32 (of_z w32 p.y) ≡ p.y
same_y p within =
    to_z-of_z w32 p.y (world_fits 900000000 p.y (omega arith) (and_parts _ _ within).1)

along_is : (half : ℕ) (z : ℤ) → is_within half z ≡ true → pos (along half z) ≡ z +ℤ pos half
along_is half (pos m) fits = refl
along_is half (negsuc m) fits =
    let small : m < half = grind (arith, common_steps) in
    natural_is half (negsuc m) (omega (arith, ints))
  where
    natural_is : (half : ℕ) (z : ℤ) → pos 0 ≤ℤ (z +ℤ pos half) → pos (along half z) ≡ z +ℤ pos half
    natural_is half z low = by (z +ℤ pos half) low
      where
        by : (w : ℤ) → pos 0 ≤ℤ w → pos (natural w) ≡ w
        by (pos n) low = refl
        by (negsuc n) low = absurd (omega (arith, ints))

along_rises : (half : ℕ) (a b : ℤ) → is_within half a ≡ true → is_within half b ≡ true → a ≤ℤ b
    → along half a ≤ along half b
along_rises half a b fits fits' less =
    let at = along_is half a fits in
    let at' = along_is half b fits' in
    omega (arith, ints)

-- later places have no earlier cells
abbrev pub Rises : Type 0
Rises = (u v span bits : ℕ) → u ≤ v → normal_of u span bits ≤ normal_of v span bits

pub longitude_rises : (bits : ℕ) (p q : Point) → Rises → is_in_world p ≡ true → is_in_world q ≡ true
    → p.x ≤ℤ q.x → longitude_cell bits p.x ≤ longitude_cell bits q.x
longitude_rises bits p q rises fits fits' less =
    rises (along 1800000000 p.x) (along 1800000000 q.x) 3600000000 bits
    (along_rises 1800000000 p.x q.x (and_parts _ _ fits).0 (and_parts _ _ fits').0 less)

pub latitude_rises : (bits : ℕ) (p q : Point) → Rises → is_in_world p ≡ true → is_in_world q ≡ true
    → p.y ≤ℤ q.y → latitude_cell bits p.y ≤ latitude_cell bits q.y
latitude_rises bits p q rises fits fits' less =
    rises (along 900000000 p.y) (along 900000000 q.y) 1800000000 bits
    (along_rises 900000000 p.y q.y (and_parts _ _ fits).1 (and_parts _ _ fits').1 less)

pub two_at_most : (a b a' b' : ℕ) → a ≤ a' → b ≤ b' → IsAtMost (a ∷ b ∷ []) (a' ∷ b' ∷ [])
two_at_most a b a' b' first second zero = first
two_at_most a b a' b' first second (suc zero) = second
two_at_most a b a' b' first second (suc (suc d)) = omega arith

pub three_at_most : (a b c a' b' c' : ℕ) → a ≤ a' → b ≤ b' → c ≤ c'
    → IsAtMost (a ∷ b ∷ c ∷ []) (a' ∷ b' ∷ c' ∷ [])
three_at_most a b c a' b' c' first second third zero = first
three_at_most a b c a' b' c' first second third (suc zero) = second
three_at_most a b c a' b' c' first second third (suc (suc zero)) = third
three_at_most a b c a' b' c' first second third (suc (suc (suc d))) = omega arith
