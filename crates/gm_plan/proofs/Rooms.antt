-- The codes of a tree have 64 bits.
use Rattle.std.proofs.Common.{◌≡◌, ℕ, zero, suc, ◌+◌, ◌-◌, ◌*◌, ◌^◌, ◌<◌, ◌≤◌, sym, ap, ◌∙◌, ◌⊎◌}
use Rattle.std.proofs.Common.{inl, inr, arith, subst}
use Rattle.std.proofs.lemmas.Nat.{pow_below, pow-add}
use Rattle.gm_base.proofs.Numbers.{two_at_least}
use Rattle.gm_curve.specs.Listing.{sequence_count}
use Rattle.gm_trees.specs.Z.{z_shape, IsZSize}
use Rattle.gm_trees.specs.Xz.{xz_shape, IsXzSize}

less_one : (n m : ℕ) → n < m → 0 + (n - 1) < m
less_one n m h = omega arith

pub z_room : (D B : ℕ) → IsZSize D B → (z_shape D B).last (z_shape D B).root < 2 ^ 64
z_room D B size =
    let fits = size.fits in
    let e : B - 0 ≡ B = omega arith in
    let less : D * B < 64 = omega arith in
    subst (λ b. 0 + (2 ^ (D * b) - 1) < 2 ^ 64) (sym e)
    (less_one (2 ^ (D * B)) (2 ^ 64) (pow_below (D * B) 64 less))

next_count : (q c p : ℕ) → 2 ≤ q → c + 1 ≤ p → 1 + q * c + 1 ≤ q * p
next_count q c p two h = grind arith

count_below : (D g : ℕ) → 1 ≤ D → sequence_count D g + 1 ≤ 2 ^ (D * (g + 1))
count_below D zero some =
    let e : D * (0 + 1) ≡ D = omega arith in
    subst (λ n. 1 + 1 ≤ 2 ^ n) (sym e) (two_at_least D some)
count_below D (suc g) some =
    let e : D * (suc g + 1) ≡ D + D * (g + 1) = grind arith in
    subst (λ n. 1 + 2 ^ D * sequence_count D g + 1 ≤ n)
    (sym (ap (λ n. 2 ^ n) e ∙ pow-add 2 D (D * (g + 1))))
    (next_count (2 ^ D) (sequence_count D g) (2 ^ (D * (g + 1))) (two_at_least D some)
    (count_below D g some))

few_bits : (D G : ℕ) → (D ≡ 2) ⊎ (D ≡ 3) → G ≤ 16 → (1 ≤ D) × (D * (G + 1) < 64)
few_bits D G (inl e) h =
    subst (λ d. (1 ≤ d) × (d * (G + 1) < 64)) (sym e) (omega arith, omega arith)
few_bits D G (inr e) h =
    subst (λ d. (1 ≤ d) × (d * (G + 1) < 64)) (sym e) (omega arith, omega arith)

pub xz_room : (D G : ℕ) → IsXzSize D G → (xz_shape D G).last (xz_shape D G).root < 2 ^ 64
xz_room D G size =
    let bits = few_bits D G size.dimensions size.most in
    let e : G - 0 ≡ G = omega arith in
    let below = count_below D G bits.0 in
    let power = pow_below (D * (G + 1)) 64 bits.1 in
    subst (λ g. 0 + (sequence_count D g - 1) < 2 ^ 64) (sym e)
    (less_one (sequence_count D G) (2 ^ 64) (between _ _ _ below power))
  where
    between : (a b c : ℕ) → a + 1 ≤ b → b < c → a < c
    between a b c h k = omega arith
