-- The bits at multiples of D.
use Rattle.std.proofs.Common.{◌≡◌, ℕ, zero, suc, ◌+◌, ◌-◌, ◌*◌, ◌/◌, ◌%◌, ◌^◌, ◌<◌, ◌≤◌, refl, sym}
use Rattle.std.proofs.Common.{ap, ◌∙◌, subst, arith}
use Rattle.std.specs.Int.{bit_at}
use Rattle.std.specs.Int.RustNames.{bit_and}
use Rattle.std.specs.Int.Bits.{and_zero_r}
use Rattle.std.proofs.lemmas.Nat.{pow-add, pow_pos, mod_below, and_mask, and_block, shr_split}
use Rattle.std.proofs.lemmas.Nat.{shr_below, shr-shr}
use Rattle.std.proofs.lemmas.Nat.Bits.{bit_at_lowest, bit_at-suc, bit_at-zero, bit_at_cat_low}
use Rattle.std.proofs.lemmas.Nat.Bits.{bit_at_cat_high}
use Rattle.std.proofs.Math.Nat.{mul-suc, div-eq_of_lt, pow-le-pow_right}
use Rattle.gm_curve.specs.Spreading.{spaced, gathered}
use Rattle.std.proofs.lemmas.Grind.{common_steps}
use Rattle.gm_curve.proofs.Blocks.{mask, cut_mask, fits_64}

-- ---- one bit a block
halved : (D n x : ℕ) → spaced D 1 (suc n) x ≡ spaced D 1 n (x / 2) * 2 ^ D + x % 2
halved D n x = let e : D * 1 ≡ D = omega arith in ap (λ w. spaced D 1 n (x / 2) * 2 ^ w + x % 2) e

low_bit : (D x : ℕ) → 1 ≤ D → x % 2 < 2 ^ D
low_bit D x some = let most : 2 ^ 1 ≤ 2 ^ D = pow-le-pow_right (omega arith) some in
    omega (arith, most)

pub bit_at-spaced : (D n x j : ℕ) → 1 ≤ D → j < n → bit_at (spaced D 1 n x) (D * j) ≡ bit_at x j
bit_at-spaced D zero x j some few = absurd (omega arith)
bit_at-spaced D (suc n) x zero some few =
    let none : D * 0 ≡ 0 = omega arith in
    ap (λ v. bit_at v (D * 0)) (halved D n x)
    ∙ ap (bit_at (spaced D 1 n (x / 2) * 2 ^ D + x % 2)) none
    ∙ bit_at_cat_low (spaced D 1 n (x / 2)) D (x % 2) 0 some ∙ bit_at_lowest (x % 2) ∙ omega arith
    ∙ sym (bit_at_lowest x)
bit_at-spaced D (suc n) x (suc j) some few =
    let past : D * suc j - D ≡ D * j = omega (arith, mul-suc D j) in
    ap (λ v. bit_at v (D * suc j)) (halved D n x)
    ∙ bit_at_cat_high (spaced D 1 n (x / 2)) D (x % 2) (D * suc j) (low_bit D x some)
    (omega (arith, mul-suc D j))
    ∙ ap (bit_at (spaced D 1 n (x / 2))) past ∙ bit_at-spaced D n (x / 2) j some (omega arith)
    ∙ sym (bit_at-suc x j)

pub bit_between : (D n x j r : ℕ) → 0 < r → r < D → bit_at (spaced D 1 n x) (D * j + r) ≡ 0
bit_between D zero x j r some few = bit_at-zero (D * j + r)
bit_between D (suc n) x zero r some few =
    let place : D * 0 + r ≡ suc (r - 1) = omega arith in
    let inside : suc (r - 1) < D = omega arith in
    let half : x % 2 / 2 ≡ 0 = omega arith in
    ap (λ v. bit_at v (D * 0 + r)) (halved D n x)
    ∙ ap (bit_at (spaced D 1 n (x / 2) * 2 ^ D + x % 2)) place
    ∙ bit_at_cat_low (spaced D 1 n (x / 2)) D (x % 2) (suc (r - 1)) inside
    ∙ bit_at-suc (x % 2) (r - 1) ∙ ap (λ v. bit_at v (r - 1)) half ∙ bit_at-zero (r - 1)
bit_between D (suc n) x (suc j) r some few =
    let past : D * suc j + r - D ≡ D * j + r = omega (arith, mul-suc D j) in
    ap (λ v. bit_at v (D * suc j + r)) (halved D n x)
    ∙ bit_at_cat_high (spaced D 1 n (x / 2)) D (x % 2) (D * suc j + r)
    (low_bit D x (omega arith)) (omega (arith, mul-suc D j))
    ∙ ap (bit_at (spaced D 1 n (x / 2))) past ∙ bit_between D n (x / 2) j r some few

-- ---- the bits that a mask lets through
last_bit : (D c : ℕ) → 1 ≤ D → c % 2 ^ D % 2 ≡ c % 2
last_bit D c some =
    let width : 2 ^ D ≡ 2 ^ (D - 1) * 2 = let e : D ≡ D - 1 + 1 = omega arith in
    ap (λ n. 2 ^ n) e ∙ pow-add 2 (D - 1) 1 in
    let product = ap (λ n. c / 2 ^ D * n) width in
    omega (arith, shr_split c D, product)

pub picked : (D n c : ℕ) → 1 ≤ D → bit_and c (mask D 1 n) ≡ spaced D 1 n (gathered D n c)
picked D zero c some = and_zero_r c
picked D (suc n) c some =
    let e : D * 1 ≡ D = omega arith in
    let above = gathered D n (c / 2 ^ D) in
    let half : gathered D (suc n) c / 2 ≡ above = omega arith in
    let last : gathered D (suc n) c % 2 ≡ c % 2 = omega arith in
    let one : 1 < 2 ^ D = let most : 2 ^ 1 ≤ 2 ^ D = pow-le-pow_right (omega arith) some in
    omega (arith, most) in
    let low : bit_and (c % 2 ^ D) 1 ≡ c % 2 = and_mask (c % 2 ^ D) 1 ∙ last_bit D c some in
    ap (λ w. bit_and c (mask D 1 n * 2 ^ w + 1)) e
    ∙ ap (λ v. bit_and v (mask D 1 n * 2 ^ D + 1)) (sym (shr_split c D))
    ∙ and_block D (c / 2 ^ D) (mask D 1 n) (c % 2 ^ D) 1 (mod_below c (2 ^ D) (pow_pos D)) one
    ∙ ap (λ v. v * 2 ^ D + bit_and (c % 2 ^ D) 1) (picked D n (c / 2 ^ D) some)
    ∙ ap (λ v. spaced D 1 n above * 2 ^ D + v) low
    ∙ sym (halved D n (gathered D (suc n) c)
    ∙ ap (λ v. spaced D 1 n v * 2 ^ D + gathered D (suc n) c % 2) half
    ∙ ap (λ v. spaced D 1 n above * 2 ^ D + v) last)

pub gathered-lt : (D n c : ℕ) → gathered D n c < 2 ^ n
gathered-lt D zero c = omega arith
gathered-lt D (suc n) c =
    let whole : 2 ^ suc n ≡ 2 ^ n * 2 = grind (arith, common_steps) in
    omega (arith, whole, gathered-lt D n (c / 2 ^ D))

pub bit_at-gathered : (D n c j : ℕ) → j < n → bit_at (gathered D n c) j ≡ bit_at c (D * j)
bit_at-gathered D zero c j few = absurd (omega arith)
bit_at-gathered D (suc n) c zero few =
    let none : D * 0 ≡ 0 = omega arith in
    bit_at_lowest (gathered D (suc n) c) ∙ omega arith ∙ sym (bit_at_lowest c)
    ∙ ap (bit_at c) (sym none)
bit_at-gathered D (suc n) c (suc j) few =
    let half : gathered D (suc n) c / 2 ≡ gathered D n (c / 2 ^ D) = omega arith in
    let place : D + D * j ≡ D * suc j = omega (arith, mul-suc D j) in
    bit_at-suc (gathered D (suc n) c) j ∙ ap (λ v. bit_at v j) half
    ∙ bit_at-gathered D n (c / 2 ^ D) j (omega arith)
    ∙ ap (λ v. v % 2) (shr-shr c D (D * j)) ∙ ap (bit_at c) place

gathered_none : (D n : ℕ) → gathered D n 0 ≡ 0
gathered_none D zero = refl
gathered_none D (suc n) = let half : gathered D n (0 / 2 ^ D) ≡ 0 =
    ap (gathered D n) (div-eq_of_lt (pow_pos D)) ∙ gathered_none D n in omega (arith, half)

pub gathered_below : (D n c b : ℕ) → c < 2 ^ (D * b) → gathered D n c < 2 ^ b
gathered_below D zero c b few = pow_pos b
gathered_below D (suc n) c zero few =
    let none : D * 0 ≡ 0 = omega arith in
    let least : c < 2 ^ 0 = subst (λ v. c < 2 ^ v) none few in
    let nothing : c ≡ 0 = omega arith in
    let none_set : gathered D (suc n) c ≡ 0 =
    ap (gathered D (suc n)) nothing ∙ gathered_none D (suc n) in
    omega (arith, none_set)
gathered_below D (suc n) c (suc b) few =
    let whole : 2 ^ suc b ≡ 2 ^ b * 2 = grind (arith, common_steps) in
    let parts : D * suc b ≡ D * b + D = mul-suc D b in
    omega (
      arith,
      whole,
      gathered_below D n (c / 2 ^ D) b (shr_below c (D * b) D (subst (λ v. c < 2 ^ v) parts few)),
    )

-- the mask of the code: one bit of each D
pub picked_64 : (D c b M : ℕ) → 1 ≤ D → c < 2 ^ 64 → gathered D 32 c < 2 ^ (b + 1) → D * b + 1 ≤ 64
    → M ≡ mask D 1 32 % 2 ^ 64 → bit_and c M ≡ spaced D 1 32 (gathered D 32 c)
picked_64 D c b M some fits few size ones =
    ap (bit_and c) ones
    ∙ cut_mask c (mask D 1 32) (spaced D 1 32 (gathered D 32 c)) fits
    (fits_64 D 1 32 (gathered D 32 c) b some (omega arith) few size) (picked D 32 c some)
