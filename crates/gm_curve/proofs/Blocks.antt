-- Spreading and gathering by shifts and masks, a block at a time.
use Rattle.std.proofs.Common.{◌≡◌, ⊎_elim, ℕ, zero, suc, ◌+◌, ◌-◌, ◌*◌, ◌/◌, ◌%◌, ◌^◌, ◌<◌, ◌≤◌}
use Rattle.std.proofs.Common.{refl, sym, ap, ◌∙◌, subst, arith, lit≤}
use Rattle.std.specs.Int.RustNames.{bit_and, bit_or}
use Rattle.std.specs.Int.Bits.{and_zero_r, or_zero_r, or_shifted_r}
use Rattle.std.proofs.lemmas.Bool.{cases_lt}
use Rattle.std.proofs.lemmas.Nat.{pow-add, pow_pos, mul-add-lt, shl_below, shr_below, shr_split}
use Rattle.std.proofs.lemmas.Nat.{mod_below, and_mask, or_mod, and_mod, and_block, or_block, or_lt}
use Rattle.std.proofs.lemmas.Nat.{shr_high, mod_low, mod-pow-add, shr-shr, shr_le}
use Rattle.std.proofs.Math.Nat.{mod-eq_of_lt, div-eq_of_lt, pow-le-pow_right, mul-le-mul_right}
use Rattle.gm_curve.specs.Spreading.{spaced}

-- the ones that stand where n spaced blocks of k bits have theirs
abbrev pub mask : ℕ → ℕ → ℕ → ℕ
mask D k zero = 0
mask D k (suc n) = mask D k n * 2 ^ (D * k) + (2 ^ k - 1)

abbrev pub double : ℕ → ℕ
double zero = zero
double (suc n) = suc (suc (double n))

-- ---- one block of two halves
ones_below : (k w : ℕ) → k ≤ w → 2 ^ k - 1 < 2 ^ w
ones_below k w few = let most : 2 ^ k ≤ 2 ^ w = pow-le-pow_right (omega arith) few in
    omega (arith, most, pow_pos k)

halves_below : (k w a b : ℕ) → k + k ≤ w → a < 2 ^ k → b < 2 ^ k → a * 2 ^ k + b < 2 ^ w
halves_below k w a b few high low =
    let most : 2 ^ (k + k) ≤ 2 ^ w = pow-le-pow_right (omega arith) few in
    omega (arith, most, pow-add 2 k k, mul-add-lt a (2 ^ k) b (2 ^ k) high low)

shifted_past : (b s k : ℕ) → k ≤ s → b * 2 ^ s % 2 ^ k ≡ 0
shifted_past b s k most =
    let split : s ≡ s - k + k = omega arith in
    let whole : b * 2 ^ s ≡ b * 2 ^ (s - k) * 2 ^ k + 0 =
    ap (λ n. b * 2 ^ n) split ∙ ap (λ n. b * n) (pow-add 2 (s - k) k) ∙ grind arith in
    ap (λ n. n % 2 ^ k) whole ∙ mod_low (b * 2 ^ (s - k)) k 0 (pow_pos k)

-- two halves that stand together, and their copy s places higher
halves_apart : (k s w a b : ℕ) → w ≡ s + k → k ≤ s → a < 2 ^ k → b < 2 ^ k
    → bit_and (bit_or (a * 2 ^ k + b) (a * 2 ^ w + b * 2 ^ s)) ((2 ^ k - 1) * 2 ^ w + (2 ^ k - 1))
    ≡ a * 2 ^ w + b
halves_apart k s w a b whole most high low =
    let r = a * 2 ^ k + b in
    let r_below : r < 2 ^ w = halves_below k w a b (omega arith) high low in
    let swapped : w ≡ k + s = omega arith in
    let up_below : b * 2 ^ s < 2 ^ w =
    subst (λ n. b * 2 ^ s < 2 ^ n) (sym swapped) (shl_below b k s low) in
    let both = bit_or r (b * 2 ^ s) in
    let start : r ≡ 0 * 2 ^ w + r = omega arith in
    let joined : bit_or r (a * 2 ^ w + b * 2 ^ s) ≡ a * 2 ^ w + both =
    ap (λ n. bit_or n (a * 2 ^ w + b * 2 ^ s)) start
    ∙ or_block w 0 a r (b * 2 ^ s) r_below up_below in
    let cut = and_block w a (2 ^ k - 1) both (2 ^ k - 1) (or_lt w r (b * 2 ^ s) r_below up_below)
    (ones_below k w (omega arith)) in
    let upper : bit_and a (2 ^ k - 1) ≡ a = and_mask a k ∙ mod-eq_of_lt high in
    let lower : bit_and both (2 ^ k - 1) ≡ b =
    and_mask both k ∙ or_mod r (b * 2 ^ s) k
    ∙ ap (λ n. bit_or n (b * 2 ^ s % 2 ^ k)) (mod_low a k b low)
    ∙ ap (bit_or b) (shifted_past b s k most) ∙ or_zero_r b in
    ap (λ n. bit_and n ((2 ^ k - 1) * 2 ^ w + (2 ^ k - 1))) joined ∙ cut
    ∙ ap (λ n. n * 2 ^ w + bit_and both (2 ^ k - 1)) upper ∙ ap (λ n. a * 2 ^ w + n) lower

-- two halves that stand apart, their copy s places lower, and what a higher block p brings from
-- above
halves_together : (k s w a b p : ℕ) → w ≡ s + k → k ≤ s → a < 2 ^ k → b < 2 ^ k
    → bit_and (bit_or (a * 2 ^ w + b) (p * 2 ^ (w + k) + a * 2 ^ k)) (2 ^ (k + k) - 1)
    ≡ a * 2 ^ k + b
halves_together k s w a b p whole most high low =
    let wide : w ≡ w - (k + k) + (k + k) = omega arith in
    let wider : w + k ≡ w - k + (k + k) = omega arith in
    let b_below : b < 2 ^ (k + k) = let h : 2 ^ k ≤ 2 ^ (k + k) =
    pow-le-pow_right (omega arith) (omega arith) in omega (arith, h) in
    let first : a * 2 ^ w + b ≡ a * 2 ^ (w - (k + k)) * 2 ^ (k + k) + b =
    ap (λ n. a * 2 ^ n + b) wide ∙ ap (λ n. a * n + b) (pow-add 2 (w - (k + k)) (k + k))
    ∙ grind arith in
    let second : p * 2 ^ (w + k) + a * 2 ^ k ≡ p * 2 ^ (w - k) * 2 ^ (k + k) + a * 2 ^ k =
    ap (λ n. p * 2 ^ n + a * 2 ^ k) wider
    ∙ ap (λ n. p * n + a * 2 ^ k) (pow-add 2 (w - k) (k + k)) ∙ grind arith in
    let rest : (a * 2 ^ w + b) % 2 ^ (k + k) ≡ b =
    ap (λ n. n % 2 ^ (k + k)) first ∙ mod_low (a * 2 ^ (w - (k + k))) (k + k) b b_below in
    let copy : (p * 2 ^ (w + k) + a * 2 ^ k) % 2 ^ (k + k) ≡ a * 2 ^ k =
    ap (λ n. n % 2 ^ (k + k)) second
    ∙ mod_low (p * 2 ^ (w - k)) (k + k) (a * 2 ^ k) (shl_below a k k high) in
    and_mask (bit_or (a * 2 ^ w + b) (p * 2 ^ (w + k) + a * 2 ^ k)) (k + k)
    ∙ or_mod (a * 2 ^ w + b) (p * 2 ^ (w + k) + a * 2 ^ k) (k + k)
    ∙ ap (λ n. bit_or n ((p * 2 ^ (w + k) + a * 2 ^ k) % 2 ^ (k + k))) rest ∙ ap (bit_or b) copy
    ∙ or_shifted_r a k b low

-- ---- a block below others
spread_below : (k s w A a b M R : ℕ) → w ≡ s + k → k ≤ s → a < 2 ^ k → b < 2 ^ k
    → bit_and (bit_or A (A * 2 ^ s)) M ≡ R
    → bit_and (bit_or (A * 2 ^ (w + w) + (a * 2 ^ k + b))
    ((A * 2 ^ (w + w) + (a * 2 ^ k + b)) * 2 ^ s))
    (M * 2 ^ (w + w) + ((2 ^ k - 1) * 2 ^ w + (2 ^ k - 1)))
    ≡ R * 2 ^ (w + w) + (a * 2 ^ w + b)
spread_below k s w A a b M R whole most high low above =
    let r = a * 2 ^ k + b in
    let t = a * 2 ^ w + b * 2 ^ s in
    let ones = (2 ^ k - 1) * 2 ^ w + (2 ^ k - 1) in
    let r_below : r < 2 ^ (w + w) = halves_below k (w + w) a b (omega arith) high low in
    let swapped : w ≡ k + s = omega arith in
    let width : 2 ^ w ≡ 2 ^ k * 2 ^ s = ap (λ n. 2 ^ n) swapped ∙ pow-add 2 k s in
    let up_below : b * 2 ^ s < 2 ^ w =
    subst (λ n. b * 2 ^ s < 2 ^ n) (sym swapped) (shl_below b k s low) in
    let narrow : 2 ^ k ≤ 2 ^ w = pow-le-pow_right (omega arith) (omega arith) in
    let t_below : t < 2 ^ (w + w) =
    omega (
      arith,
      pow-add 2 w w,
      mul-add-lt a (2 ^ w) (b * 2 ^ s) (2 ^ w) (omega (arith, narrow, high)) up_below,
    ) in
    let ones_fit : ones < 2 ^ (w + w) =
    omega (
      arith,
      pow-add 2 w w,
      mul-add-lt (2 ^ k - 1) (2 ^ w) (2 ^ k - 1) (2 ^ w) (ones_below k w (omega arith))
          (ones_below k w (omega arith)),
    ) in
    let moved : (A * 2 ^ (w + w) + r) * 2 ^ s ≡ A * 2 ^ s * 2 ^ (w + w) + t =
    rw width (grind arith) in
    ap (λ n. bit_and (bit_or (A * 2 ^ (w + w) + r) n) (M * 2 ^ (w + w) + ones)) moved
    ∙ ap (λ n. bit_and n (M * 2 ^ (w + w) + ones))
    (or_block (w + w) A (A * 2 ^ s) r t r_below t_below)
    ∙ and_block (w + w) (bit_or A (A * 2 ^ s)) M (bit_or r t) ones
    (or_lt (w + w) r t r_below t_below) ones_fit
    ∙ ap (λ n. n * 2 ^ (w + w) + bit_and (bit_or r t) ones) above
    ∙ ap (λ n. R * 2 ^ (w + w) + n) (halves_apart k s w a b whole most high low)

taken_apart : (A q p a b S W X Z K : ℕ) → A ≡ q * S + p → W ≡ X * S → Z ≡ K * S
    → A * W + (a * Z + b) ≡ (q * W + (p * X + a * K)) * S + b
taken_apart A q p a b S W X Z K whole wide side =
    let first = ap (λ n. n * W) whole in
    let second = ap (λ n. p * n) wide in
    let third = ap (λ n. a * n) side in
    omega (arith, first, second, third)

gather_below : (k s w A a b M R : ℕ) → w ≡ s + k → k ≤ s → a < 2 ^ k → b < 2 ^ k
    → bit_and (bit_or A (A / 2 ^ s)) M ≡ R
    → bit_and (bit_or (A * 2 ^ (w + w) + (a * 2 ^ w + b))
    ((A * 2 ^ (w + w) + (a * 2 ^ w + b)) / 2 ^ s)) (M * 2 ^ (w + w) + (2 ^ (k + k) - 1))
    ≡ R * 2 ^ (w + w) + (a * 2 ^ k + b)
gather_below k s w A a b M R whole most high low above =
    let q = A / 2 ^ s in
    let p = A % 2 ^ s in
    let l = a * 2 ^ w + b in
    let t = p * 2 ^ (w + k) + a * 2 ^ k in
    let narrow : 2 ^ k ≤ 2 ^ w = pow-le-pow_right (omega arith) (omega arith) in
    let l_below : l < 2 ^ (w + w) =
    omega (
      arith,
      pow-add 2 w w,
      mul-add-lt a (2 ^ w) b (2 ^ w) (omega (arith, narrow, high))
          (omega (arith, narrow, low)),
    ) in
    let a_below : a * 2 ^ k < 2 ^ (w + k) = let h : 2 ^ (k + k) ≤ 2 ^ (w + k) =
    pow-le-pow_right (omega arith) (omega arith) in omega (arith, h, shl_below a k k high) in
    let wide : w + w ≡ w + k + s = omega arith in
    let width : 2 ^ (w + w) ≡ 2 ^ (w + k) * 2 ^ s = ap (λ n. 2 ^ n) wide ∙ pow-add 2 (w + k) s in
    let side : 2 ^ w ≡ 2 ^ k * 2 ^ s = let e : w ≡ k + s = omega arith in
    ap (λ n. 2 ^ n) e ∙ pow-add 2 k s in
    let t_below : t < 2 ^ (w + w) =
    omega (
      arith,
      width,
      mul-add-lt p (2 ^ (w + k)) (a * 2 ^ k) (2 ^ s)
          (mod_below A (2 ^ s) (pow_pos s)) a_below,
    ) in
    let b_below : b < 2 ^ s = let h : 2 ^ k ≤ 2 ^ s = pow-le-pow_right (omega arith) most in
    omega (arith, h) in
    let split : A * 2 ^ (w + w) + l ≡ (q * 2 ^ (w + w) + t) * 2 ^ s + b =
    taken_apart A q p a b (2 ^ s) (2 ^ (w + w)) (2 ^ (w + k)) (2 ^ w) (2 ^ k)
    (sym (shr_split A s)) width side in
    let moved : (A * 2 ^ (w + w) + l) / 2 ^ s ≡ q * 2 ^ (w + w) + t =
    ap (λ n. n / 2 ^ s) split ∙ shr_high (q * 2 ^ (w + w) + t) s b b_below in
    ap (λ n. bit_and (bit_or (A * 2 ^ (w + w) + l) n) (M * 2 ^ (w + w) + (2 ^ (k + k) - 1))) moved
    ∙ ap (λ n. bit_and n (M * 2 ^ (w + w) + (2 ^ (k + k) - 1)))
    (or_block (w + w) A q l t l_below t_below)
    ∙ and_block (w + w) (bit_or A q) M (bit_or l t) (2 ^ (k + k) - 1)
    (or_lt (w + w) l t l_below t_below) (ones_below (k + k) (w + w) (omega arith))
    ∙ ap (λ n. n * 2 ^ (w + w) + bit_and (bit_or l t) (2 ^ (k + k) - 1)) above
    ∙ ap (λ n. R * 2 ^ (w + w) + n) (halves_together k s w a b p whole most high low)

-- ---- all blocks
nested : (S a b w : ℕ) → (S * 2 ^ w + a) * 2 ^ w + b ≡ S * 2 ^ (w + w) + (a * 2 ^ w + b)
nested S a b w = let wide = ap (λ n. S * n) (pow-add 2 w w) in omega (arith, wide)

two_blocks : (D k m x : ℕ)
    → spaced D k (suc (suc m)) x
    ≡ spaced D k m (x / 2 ^ (k + k)) * 2 ^ (D * k + D * k)
    + (x / 2 ^ k % 2 ^ k * 2 ^ (D * k) + x % 2 ^ k)
two_blocks D k m x =
    let past = ap (λ n. spaced D k m n) (shr-shr x k k) in
    ap (λ n. (n * 2 ^ (D * k) + x / 2 ^ k % 2 ^ k) * 2 ^ (D * k) + x % 2 ^ k) past
    ∙ nested (spaced D k m (x / 2 ^ (k + k))) (x / 2 ^ k % 2 ^ k) (x % 2 ^ k) (D * k)

two_masks : (D k m : ℕ)
    → mask D k (suc (suc m))
    ≡ mask D k m * 2 ^ (D * k + D * k) + ((2 ^ k - 1) * 2 ^ (D * k) + (2 ^ k - 1))
two_masks D k m = nested (mask D k m) (2 ^ k - 1) (2 ^ k - 1) (D * k)

wide_block : (D k n x : ℕ)
    → spaced D (k + k) (suc n) x
    ≡ spaced D (k + k) n (x / 2 ^ (k + k)) * 2 ^ (D * k + D * k)
    + (x / 2 ^ k % 2 ^ k * 2 ^ k + x % 2 ^ k)
wide_block D k n x =
    let e : D * (k + k) ≡ D * k + D * k = omega arith in
    ap (λ w. spaced D (k + k) n (x / 2 ^ (k + k)) * 2 ^ w + x % 2 ^ (k + k)) e
    ∙ ap (λ r. spaced D (k + k) n (x / 2 ^ (k + k)) * 2 ^ (D * k + D * k) + r)
    (mod-pow-add x k k)

wide_mask : (D k n : ℕ)
    → mask D (k + k) (suc n) ≡ mask D (k + k) n * 2 ^ (D * k + D * k) + (2 ^ (k + k) - 1)
wide_mask D k n = let e : D * (k + k) ≡ D * k + D * k = omega arith in
    ap (λ w. mask D (k + k) n * 2 ^ w + (2 ^ (k + k) - 1)) e

spread_all : (D k s n x : ℕ) → D * k ≡ s + k → k ≤ s
    → bit_and (bit_or (spaced D (k + k) n x) (spaced D (k + k) n x * 2 ^ s)) (mask D k (double n))
    ≡ spaced D k (double n) x
spread_all D k s zero x whole most = and_zero_r (bit_or 0 (0 * 2 ^ s))
spread_all D k s (suc n) x whole most =
    ap (λ y. bit_and (bit_or y (y * 2 ^ s)) (mask D k (double (suc n)))) (wide_block D k n x)
    ∙ ap (bit_and (bit_or
    (spaced D (k + k) n (x / 2 ^ (k + k)) * 2 ^ (D * k + D * k)
    + (x / 2 ^ k % 2 ^ k * 2 ^ k + x % 2 ^ k))
    ((spaced D (k + k) n (x / 2 ^ (k + k)) * 2 ^ (D * k + D * k)
    + (x / 2 ^ k % 2 ^ k * 2 ^ k + x % 2 ^ k)) * 2 ^ s))) (two_masks D k (double n))
    ∙ spread_below k s (D * k) (spaced D (k + k) n (x / 2 ^ (k + k))) (x / 2 ^ k % 2 ^ k)
    (x % 2 ^ k) (mask D k (double n)) (spaced D k (double n) (x / 2 ^ (k + k))) whole most
    (mod_below (x / 2 ^ k) (2 ^ k) (pow_pos k)) (mod_below x (2 ^ k) (pow_pos k))
    (spread_all D k s n (x / 2 ^ (k + k)) whole most)
    ∙ sym (two_blocks D k (double n) x)

gather_all : (D k s n x : ℕ) → D * k ≡ s + k → k ≤ s
    → bit_and (bit_or (spaced D k (double n) x) (spaced D k (double n) x / 2 ^ s))
    (mask D (k + k) n) ≡ spaced D (k + k) n x
gather_all D k s zero x whole most = and_zero_r (bit_or 0 (0 / 2 ^ s))
gather_all D k s (suc n) x whole most =
    ap (λ y. bit_and (bit_or y (y / 2 ^ s)) (mask D (k + k) (suc n))) (two_blocks D k (double n) x)
    ∙ ap (bit_and (bit_or
    (spaced D k (double n) (x / 2 ^ (k + k)) * 2 ^ (D * k + D * k)
    + (x / 2 ^ k % 2 ^ k * 2 ^ (D * k) + x % 2 ^ k))
    ((spaced D k (double n) (x / 2 ^ (k + k)) * 2 ^ (D * k + D * k)
    + (x / 2 ^ k % 2 ^ k * 2 ^ (D * k) + x % 2 ^ k)) / 2 ^ s))) (wide_mask D k n)
    ∙ gather_below k s (D * k) (spaced D k (double n) (x / 2 ^ (k + k))) (x / 2 ^ k % 2 ^ k)
    (x % 2 ^ k) (mask D (k + k) n) (spaced D (k + k) n (x / 2 ^ (k + k))) whole most
    (mod_below (x / 2 ^ k) (2 ^ k) (pow_pos k)) (mod_below x (2 ^ k) (pow_pos k))
    (gather_all D k s n (x / 2 ^ (k + k)) whole most)
    ∙ sym (wide_block D k n x)

-- ---- numbers of 64 bits
pub spaced_none : (D k n : ℕ) → spaced D k n 0 ≡ 0
spaced_none D k zero = refl
spaced_none D k (suc n) =
    let high : 0 / 2 ^ k ≡ 0 = div-eq_of_lt (pow_pos k) in
    let low : 0 % 2 ^ k ≡ 0 = mod-eq_of_lt (pow_pos k) in
    let rest : spaced D k n (0 / 2 ^ k) ≡ 0 = ap (spaced D k n) high ∙ spaced_none D k n in
    let product : spaced D k n (0 / 2 ^ k) * 2 ^ (D * k) ≡ 0 * 2 ^ (D * k) =
    ap (λ m. m * 2 ^ (D * k)) rest in
    omega (arith, product, low)

pub spaced-lt : (D k n x c : ℕ) → 1 ≤ D → 1 ≤ k → x < 2 ^ (c + 1) → spaced D k n x < 2 ^ (D * c + 1)
spaced-lt D k zero x c some least few = pow_pos (D * c + 1)
spaced-lt D k (suc n) x c some least few = ⊎_elim
    (λ short.
    let less : c < k = short in
    let block : 2 ^ (c + 1) ≤ 2 ^ k = pow-le-pow_right (omega arith) (omega (arith, less)) in
    let one : x < 2 ^ k = omega (arith, block) in
    let rest : spaced D k n (x / 2 ^ k) ≡ 0 =
    ap (spaced D k n) (div-eq_of_lt one) ∙ spaced_none D k n in
    let product : spaced D k n (x / 2 ^ k) * 2 ^ (D * k) ≡ 0 * 2 ^ (D * k) =
    ap (λ m. m * 2 ^ (D * k)) rest in
    let places : 1 * c ≤ D * c = mul-le-mul_right c some in
    let most : 2 ^ (c + 1) ≤ 2 ^ (D * c + 1) =
    pow-le-pow_right (omega arith) (omega (arith, places)) in
    omega (arith, product, mod-eq_of_lt one, most))
    (λ long.
    let more : k ≤ c = long in
    let parts : c + 1 ≡ c - k + 1 + k = omega arith in
    let high : x / 2 ^ k < 2 ^ (c - k + 1) =
    shr_below x (c - k + 1) k (subst (λ m. x < 2 ^ m) parts few) in
    let above = spaced-lt D k n (x / 2 ^ k) (c - k) some least high in
    let places : 1 * k ≤ D * k = mul-le-mul_right k some in
    let block : 2 ^ k ≤ 2 ^ (D * k) = pow-le-pow_right (omega arith) (omega (arith, places)) in
    let low : x % 2 ^ k < 2 ^ (D * k) = omega (arith, block, mod_below x (2 ^ k) (pow_pos k)) in
    let whole : D * c + 1 ≡ D * k + (D * (c - k) + 1) = let e : c ≡ k + (c - k) = omega arith in
    omega (arith, ap (λ m. D * m) e) in
    let size : 2 ^ (D * c + 1) ≡ 2 ^ (D * k) * 2 ^ (D * (c - k) + 1) =
    ap (λ m. 2 ^ m) whole ∙ pow-add 2 (D * k) (D * (c - k) + 1) in
    subst (λ m. spaced D k (suc n) x < m) (sym size)
    (mul-add-lt (spaced D k n (x / 2 ^ k)) (2 ^ (D * k)) (x % 2 ^ k)
    (2 ^ (D * (c - k) + 1)) above low))
    (cases_lt c k)

-- what a shift to the left lets fall, a mask of that width would not let through
cut_off : (y z M R : ℕ) → y < 2 ^ 64 → R < 2 ^ 64 → bit_and (bit_or y z) M ≡ R
    → bit_and (bit_or y (z % 2 ^ 64)) (M % 2 ^ 64) ≡ R
cut_off y z M R fits small whole =
    ap (λ v. bit_and (bit_or v (z % 2 ^ 64)) (M % 2 ^ 64)) (sym (mod-eq_of_lt fits))
    ∙ ap (λ v. bit_and v (M % 2 ^ 64)) (sym (or_mod y z 64))
    ∙ sym (and_mod (bit_or y z) M 64) ∙ ap (λ v. v % 2 ^ 64) whole ∙ mod-eq_of_lt small

pub cut_mask : (v M R : ℕ) → v < 2 ^ 64 → R < 2 ^ 64 → bit_and v M ≡ R → bit_and v (M % 2 ^ 64) ≡ R
cut_mask v M R fits small whole =
    ap (λ u. bit_and u (M % 2 ^ 64)) (sym (mod-eq_of_lt fits)) ∙ sym (and_mod v M 64)
    ∙ ap (λ u. u % 2 ^ 64) whole ∙ mod-eq_of_lt small

pub fits_64 : (D k n x c : ℕ) → 1 ≤ D → 1 ≤ k → x < 2 ^ (c + 1) → D * c + 1 ≤ 64
    → spaced D k n x < 2 ^ 64
fits_64 D k n x c some least few size =
    let most : 2 ^ (D * c + 1) ≤ 2 ^ 64 = pow-le-pow_right (omega arith) size in
    omega (arith, most, spaced-lt D k n x c some least few)

-- one step of spreading
pub spread_step : (D k s n M c x y : ℕ) → D * k ≡ s + k → k ≤ s → 1 ≤ D → 1 ≤ k → x < 2 ^ (c + 1)
    → D * c + 1 ≤ 64 → M ≡ mask D k (double n) % 2 ^ 64
    → y ≡ spaced D (k + k) n x → bit_and (bit_or y (y * 2 ^ s % 2 ^ 64)) M ≡ spaced D k (double n) x
spread_step D k s n M c x y whole most some least few size ones from =
    let wide = spaced D (k + k) n x in
    ap (bit_and (bit_or y (y * 2 ^ s % 2 ^ 64))) ones
    ∙ ap (λ v. bit_and (bit_or v (v * 2 ^ s % 2 ^ 64)) (mask D k (double n) % 2 ^ 64)) from
    ∙ cut_off wide (wide * 2 ^ s) (mask D k (double n)) (spaced D k (double n) x)
    (fits_64 D (k + k) n x c some (omega arith) few size)
    (fits_64 D k (double n) x c some least few size) (spread_all D k s n x whole most)

-- one step of gathering
pub gather_step : (D k s n M c x y : ℕ) → D * k ≡ s + k → k ≤ s → 1 ≤ D → 1 ≤ k → x < 2 ^ (c + 1)
    → D * c + 1 ≤ 64 → M ≡ mask D (k + k) n % 2 ^ 64
    → y ≡ spaced D k (double n) x → bit_and (bit_or y (y / 2 ^ s)) M ≡ spaced D (k + k) n x
gather_step D k s n M c x y whole most some least few size ones from =
    let narrow = spaced D k (double n) x in
    let fits = fits_64 D k (double n) x c some least few size in
    let lower : narrow / 2 ^ s < 2 ^ 64 = omega (arith, fits, shr_le narrow s) in
    ap (bit_and (bit_or y (y / 2 ^ s))) ones
    ∙ ap (λ v. bit_and (bit_or v (v / 2 ^ s)) (mask D (k + k) n % 2 ^ 64)) from
    ∙ cut_mask (bit_or narrow (narrow / 2 ^ s)) (mask D (k + k) n) (spaced D (k + k) n x)
    (or_lt 64 narrow (narrow / 2 ^ s) fits lower)
    (fits_64 D (k + k) n x c some (omega arith) few size) (gather_all D k s n x whole most)

-- the first block alone
pub one_block : (D k x : ℕ) → x < 2 ^ k → spaced D k 1 x ≡ x
one_block D k x few = omega (arith, mod-eq_of_lt few)

-- the steps of the code, whose masks compute
pub spread_two : (x a b c d e : ℕ) → x < 2 ^ 32 → a ≡ x
    → b ≡ bit_and (bit_or a (a * 2 ^ 16 % 2 ^ 64)) 0x0000FFFF0000FFFF
    → c ≡ bit_and (bit_or b (b * 2 ^ 8 % 2 ^ 64)) 0x00FF00FF00FF00FF
    → d ≡ bit_and (bit_or c (c * 2 ^ 4 % 2 ^ 64)) 0x0F0F0F0F0F0F0F0F
    → e ≡ bit_and (bit_or d (d * 2 ^ 2 % 2 ^ 64)) 0x3333333333333333
    → bit_and (bit_or e (e * 2 ^ 1 % 2 ^ 64)) 0x5555555555555555 ≡ spaced 2 1 32 x
spread_two x a b c d e few is_a is_b is_c is_d is_e =
    let blocks_32 : a ≡ spaced 2 32 1 x = is_a ∙ sym (one_block 2 32 x few) in
    let blocks_16 : b ≡ spaced 2 16 2 x =
    is_b ∙ spread_step 2 16 16 1 _ 31 x a refl (lit≤ tt) (lit≤ tt) (lit≤ tt) few (lit≤ tt)
    refl blocks_32 in
    let blocks_8 : c ≡ spaced 2 8 4 x =
    is_c ∙ spread_step 2 8 8 2 _ 31 x b refl (lit≤ tt) (lit≤ tt) (lit≤ tt) few (lit≤ tt)
    refl blocks_16 in
    let blocks_4 : d ≡ spaced 2 4 8 x =
    is_d ∙ spread_step 2 4 4 4 _ 31 x c refl (lit≤ tt) (lit≤ tt) (lit≤ tt) few (lit≤ tt)
    refl blocks_8 in
    let blocks_2 : e ≡ spaced 2 2 16 x =
    is_e ∙ spread_step 2 2 2 8 _ 31 x d refl (lit≤ tt) (lit≤ tt) (lit≤ tt) few (lit≤ tt)
    refl blocks_4 in
    spread_step 2 1 1 16 _ 31 x e refl (lit≤ tt) (lit≤ tt) (lit≤ tt) few (lit≤ tt) refl blocks_2

pub spread_three : (x a b c d e : ℕ) → x < 2 ^ 21 → a ≡ x
    → b ≡ bit_and (bit_or a (a * 2 ^ 32 % 2 ^ 64)) 0xFFFF00000000FFFF
    → c ≡ bit_and (bit_or b (b * 2 ^ 16 % 2 ^ 64)) 0x00FF0000FF0000FF
    → d ≡ bit_and (bit_or c (c * 2 ^ 8 % 2 ^ 64)) 0xF00F00F00F00F00F
    → e ≡ bit_and (bit_or d (d * 2 ^ 4 % 2 ^ 64)) 0x30C30C30C30C30C3
    → bit_and (bit_or e (e * 2 ^ 2 % 2 ^ 64)) 0x9249249249249249 ≡ spaced 3 1 32 x
spread_three x a b c d e few is_a is_b is_c is_d is_e =
    let small : x < 2 ^ 32 = omega arith in
    let blocks_32 : a ≡ spaced 3 32 1 x = is_a ∙ sym (one_block 3 32 x small) in
    let blocks_16 : b ≡ spaced 3 16 2 x =
    is_b ∙ spread_step 3 16 32 1 _ 20 x a refl (lit≤ tt) (lit≤ tt) (lit≤ tt) few (lit≤ tt)
    refl blocks_32 in
    let blocks_8 : c ≡ spaced 3 8 4 x =
    is_c ∙ spread_step 3 8 16 2 _ 20 x b refl (lit≤ tt) (lit≤ tt) (lit≤ tt) few (lit≤ tt)
    refl blocks_16 in
    let blocks_4 : d ≡ spaced 3 4 8 x =
    is_d ∙ spread_step 3 4 8 4 _ 20 x c refl (lit≤ tt) (lit≤ tt) (lit≤ tt) few (lit≤ tt)
    refl blocks_8 in
    let blocks_2 : e ≡ spaced 3 2 16 x =
    is_e ∙ spread_step 3 2 4 8 _ 20 x d refl (lit≤ tt) (lit≤ tt) (lit≤ tt) few (lit≤ tt)
    refl blocks_4 in
    spread_step 3 1 2 16 _ 20 x e refl (lit≤ tt) (lit≤ tt) (lit≤ tt) few (lit≤ tt) refl blocks_2

pub gather_two : (x a b c d e : ℕ) → x < 2 ^ 32 → a ≡ spaced 2 1 32 x
    → b ≡ bit_and (bit_or a (a / 2 ^ 1)) 0x3333333333333333
    → c ≡ bit_and (bit_or b (b / 2 ^ 2)) 0x0F0F0F0F0F0F0F0F
    → d ≡ bit_and (bit_or c (c / 2 ^ 4)) 0x00FF00FF00FF00FF
    → e ≡ bit_and (bit_or d (d / 2 ^ 8)) 0x0000FFFF0000FFFF
    → bit_and (bit_or e (e / 2 ^ 16)) 0xFFFFFFFF ≡ x
gather_two x a b c d e few blocks_1 is_b is_c is_d is_e =
    let blocks_2 : b ≡ spaced 2 2 16 x =
    is_b ∙ gather_step 2 1 1 16 _ 31 x a refl (lit≤ tt) (lit≤ tt) (lit≤ tt) few (lit≤ tt)
    refl blocks_1 in
    let blocks_4 : c ≡ spaced 2 4 8 x =
    is_c ∙ gather_step 2 2 2 8 _ 31 x b refl (lit≤ tt) (lit≤ tt) (lit≤ tt) few (lit≤ tt)
    refl blocks_2 in
    let blocks_8 : d ≡ spaced 2 8 4 x =
    is_d ∙ gather_step 2 4 4 4 _ 31 x c refl (lit≤ tt) (lit≤ tt) (lit≤ tt) few (lit≤ tt)
    refl blocks_4 in
    let blocks_16 : e ≡ spaced 2 16 2 x =
    is_e ∙ gather_step 2 8 8 2 _ 31 x d refl (lit≤ tt) (lit≤ tt) (lit≤ tt) few (lit≤ tt)
    refl blocks_8 in
    gather_step 2 16 16 1 _ 31 x e refl (lit≤ tt) (lit≤ tt) (lit≤ tt) few (lit≤ tt) refl blocks_16
    ∙ one_block 2 32 x few

pub gather_three : (x a b c d e : ℕ) → x < 2 ^ 21 → a ≡ spaced 3 1 32 x
    → b ≡ bit_and (bit_or a (a / 2 ^ 2)) 0x30C30C30C30C30C3
    → c ≡ bit_and (bit_or b (b / 2 ^ 4)) 0xF00F00F00F00F00F
    → d ≡ bit_and (bit_or c (c / 2 ^ 8)) 0x00FF0000FF0000FF
    → e ≡ bit_and (bit_or d (d / 2 ^ 16)) 0xFFFF00000000FFFF
    → bit_and (bit_or e (e / 2 ^ 32)) 0xFFFFFFFF ≡ x
gather_three x a b c d e few blocks_1 is_b is_c is_d is_e =
    let small : x < 2 ^ 32 = omega arith in
    let blocks_2 : b ≡ spaced 3 2 16 x =
    is_b ∙ gather_step 3 1 2 16 _ 20 x a refl (lit≤ tt) (lit≤ tt) (lit≤ tt) few (lit≤ tt)
    refl blocks_1 in
    let blocks_4 : c ≡ spaced 3 4 8 x =
    is_c ∙ gather_step 3 2 4 8 _ 20 x b refl (lit≤ tt) (lit≤ tt) (lit≤ tt) few (lit≤ tt)
    refl blocks_2 in
    let blocks_8 : d ≡ spaced 3 8 4 x =
    is_d ∙ gather_step 3 4 8 4 _ 20 x c refl (lit≤ tt) (lit≤ tt) (lit≤ tt) few (lit≤ tt)
    refl blocks_4 in
    let blocks_16 : e ≡ spaced 3 16 2 x =
    is_e ∙ gather_step 3 8 16 2 _ 20 x d refl (lit≤ tt) (lit≤ tt) (lit≤ tt) few (lit≤ tt)
    refl blocks_8 in
    gather_step 3 16 32 1 _ 20 x e refl (lit≤ tt) (lit≤ tt) (lit≤ tt) few (lit≤ tt) refl blocks_16
    ∙ one_block 3 32 x small
