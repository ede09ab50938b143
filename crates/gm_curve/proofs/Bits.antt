-- Codes by their bits.
use Rattle.std.proofs.Common.{◌≡◌, ◌⊎◌, inl, inr, ⊎_elim, ℕ, zero, suc, ◌+◌, ◌-◌, ◌*◌, ◌/◌, ◌%◌}
use Rattle.std.proofs.Common.{◌^◌, ◌<◌, ◌≤◌, List, [], ◌∷◌, length, sym, ap, ◌∙◌, subst, arith}
use Rattle.std.specs.Prelude.{slice_index, All}
use Rattle.std.specs.Int.{bit_at}
use Rattle.std.proofs.lemmas.Nat.Bits.{bit_at_lowest, bit_at-suc, bit_at-lt, bit_at_cat_low}
use Rattle.std.proofs.lemmas.Nat.Bits.{bit_at_cat_high, same_from_bits, same_from_bits_below}
use Rattle.std.proofs.lemmas.Nat.Bits.{bit_at_above}
use Rattle.std.proofs.lemmas.Grind.{common_steps}
use Rattle.std.proofs.lemmas.Bool.{cases_lt}
use Rattle.std.proofs.lemmas.List.{get_or_past}
use Rattle.std.proofs.Math.Nat.{mul_comm, mul-suc, mul-le-mul_left}
use Rattle.std.proofs.lemmas.Nat.{pow_pos, pow-add, mul-add-lt, div_below}
use Rattle.gm_curve.specs.Curve.{IsZCode, IsAtMost, bits_at, z_code}

-- the highest bit in which a greater number differs
pub record Differs (c e i : ℕ) : Type 0 where
  pub one : bit_at c i ≡ 1
  pub other : bit_at e i ≡ 0
  pub above : (k : ℕ) → i < k → bit_at c k ≡ bit_at e k

-- above the lowest bit of the halves
above_half : (c e i : ℕ) → ((k : ℕ) → i < k → bit_at (c / 2) k ≡ bit_at (e / 2) k) → (k : ℕ)
    → suc i < k → bit_at c k ≡ bit_at e k
above_half c e i above zero h = absurd (omega arith)
above_half c e i above (suc k) h = bit_at-suc c k ∙ above k (omega arith) ∙ sym (bit_at-suc e k)

above_lowest : (c e : ℕ) → c / 2 ≡ e / 2 → (k : ℕ) → 0 < k → bit_at c k ≡ bit_at e k
above_lowest c e same zero h = absurd (omega arith)
above_lowest c e same (suc k) h = bit_at-suc c k ∙ ap (λ n. bit_at n k) same ∙ sym (bit_at-suc e k)

less_or_same : (c e : ℕ) → e < c → (e / 2 < c / 2) ⊎ ((c / 2 ≡ e / 2) × (c % 2 ≡ 1) × (e % 2 ≡ 0))
less_or_same c e less =
    ⊎_elim (λ halves. inl halves) (λ same. inr ((omega arith), (omega arith), omega arith))
    (cases_lt (e / 2) (c / 2))

pub highest_difference : (n c e : ℕ) → c ≤ n → e < c → (i : ℕ) × Differs c e i
highest_difference zero c e most less = absurd (omega arith)
highest_difference (suc n) c e most less =
    ⊎_elim
    (λ halves. let d = highest_difference n (c / 2) (e / 2) (omega arith) halves in (
      suc d.0,
      record {
        one = bit_at-suc c d.0 ∙ d.1.one;
        other = bit_at-suc e d.0 ∙ d.1.other;
        above = above_half c e d.0 d.1.above;
      },
    ))
    (λ same. (
      0,
      record {
        one = bit_at_lowest c ∙ same.1;
        other = bit_at_lowest e ∙ same.2;
        above = above_lowest c e same.0;
      },
    ))
    (less_or_same c e less)

-- which of two numbers is greater shows in the highest bit in which they differ
pub greater_from_difference : (x y j : ℕ) → Differs x y j → y < x
greater_from_difference x y zero differs =
    let same : x / 2 ≡ y / 2 =
    same_from_bits (x / 2) (y / 2)
    (λ i. sym (bit_at-suc x i) ∙ differs.above (suc i) (omega arith) ∙ bit_at-suc y i) in
    omega (arith, sym (bit_at_lowest x) ∙ differs.one, sym (bit_at_lowest y) ∙ differs.other)
greater_from_difference x y (suc j) differs =
    let halves : y / 2 < x / 2 = greater_from_difference (x / 2) (y / 2) j (record {
      one = sym (bit_at-suc x j) ∙ differs.one;
      other = sym (bit_at-suc y j) ∙ differs.other;
      above = λ k h. sym (bit_at-suc x k) ∙ differs.above (suc k) (omega arith) ∙ bit_at-suc y k;
    }) in
    omega arith

-- ---- the bits at a place
pub bits_at-lt : (j : ℕ) (at : List ℕ) → bits_at j at < 2 ^ length at
bits_at-lt j [] = omega arith
bits_at-lt j (x ∷ xs) = grind (arith, common_steps, bits_at-lt j xs, bit_at-lt x j)

pub bit_at-bits_at : (j : ℕ) (at : List ℕ) (d : ℕ) → d < length at
    → bit_at (bits_at j at) d ≡ bit_at (slice_index at d) j
bit_at-bits_at j [] d h = absurd (omega arith)
bit_at-bits_at j (x ∷ xs) zero h = bit_at_lowest (bits_at j (x ∷ xs)) ∙ omega (arith, bit_at-lt x j)
bit_at-bits_at j (x ∷ xs) (suc d) h =
    let half : (bit_at x j + 2 * bits_at j xs) / 2 ≡ bits_at j xs = omega (arith, bit_at-lt x j) in
    bit_at-suc (bits_at j (x ∷ xs)) d ∙ ap (λ n. bit_at n d) half
    ∙ bit_at-bits_at j xs d (omega arith)

div_mod_whole : (i D : ℕ) → 0 < D → D * (i / D) + i % D ≡ i
div_mod_whole i D some = omega arith

mod_below : (i D : ℕ) → 0 < D → i % D < D
mod_below i D some = omega arith

-- a bit that is set is below the width
place_below : (D B c i : ℕ) → 0 < D → c < 2 ^ (D * B) → bit_at c i ≡ 1 → i / D < B
place_below D B c i some fits set = ⊎_elim (λ h. h) (λ past.
    let high : D * B ≤ i = grind (arith, div_mod_whole i D some, mul-le-mul_left D past) in
    let none : bit_at c i ≡ 0 = bit_at_above c (D * B) i fits high in
    absurd (omega (arith, set, none))) (cases_lt (i / D) B)

place_below_next : (D j k d : ℕ) → j < k → d < D → D * j + d < D * k
place_below_next D j k d less inside = let most : D * suc j ≤ D * k = mul-le-mul_left D less in
    omega (arith, mul-suc D j, most)

higher : (D j k d i : ℕ) → D * j + d ≡ i → j < k → 0 < D → i < D * k + d
higher D j k d i parts more some = grind (arith, mul-le-mul_left D more)

-- where no coordinate falls, the code does not
pub codes_rise : (D B : ℕ) (a b : List ℕ) (c e : ℕ) → 0 < D → ((d : ℕ) → slice_index a d < 2 ^ B)
    → ((d : ℕ) → slice_index b d < 2 ^ B) → IsAtMost a b → IsZCode D B a c
    → IsZCode D B b e → e < c → ⊥
codes_rise D B a b c e some below_a below_b most code_a code_b less =
    let at = highest_difference c c e (omega arith) less in
    let i = at.0 in
    let j = i / D in
    let d = i % D in
    let parts : D * j + d ≡ i = div_mod_whole i D some in
    let inside : d < D = mod_below i D some in
    let few : j < B = place_below D B c i some code_a.no_other at.1.one in
    let differs : Differs (slice_index a d) (slice_index b d) j = record {
      one = sym (code_a.bits j d few inside) ∙ ap (bit_at c) parts ∙ at.1.one;
      other = sym (code_b.bits j d few inside) ∙ ap (bit_at e) parts ∙ at.1.other;
      above = λ k h. ⊎_elim
          (λ within. sym (code_a.bits k d within inside)
          ∙ at.1.above (D * k + d) (higher D j k d i parts h some)
          ∙ code_b.bits k d within inside)
          (λ past. bit_at_above (slice_index a d) B k (below_a d) past
          ∙ sym (bit_at_above (slice_index b d) B k (below_b d) past))
          (cases_lt k B);
    } in
    omega (arith, most d, greater_from_difference (slice_index a d) (slice_index b d) j differs)

-- the numbers with the bits of the same coordinates are one
pub same_codes : (D B : ℕ) (at : List ℕ) (c e : ℕ) → 0 < D → IsZCode D B at c
    → IsZCode D B at e → c ≡ e
same_codes D B at c e some code_c code_e =
    same_from_bits_below (D * B) c e code_c.no_other code_e.no_other (λ i low.
    let few : i / D < B = div_below i D B some (omega (arith, mul_comm D B, low)) in
    let inside : i % D < D = mod_below i D some in
    let parts : D * (i / D) + i % D ≡ i = div_mod_whole i D some in
    sym (ap (bit_at c) parts) ∙ code_c.bits (i / D) (i % D) few inside
    ∙ sym (code_e.bits (i / D) (i % D) few inside) ∙ ap (bit_at e) parts)

-- ---- the code as a number
pub z_code-lt : (D : ℕ) (at : List ℕ) → length at ≡ D → (B : ℕ) → z_code D B at < 2 ^ (D * B)
z_code-lt D at size zero = let none : D * 0 ≡ 0 = omega arith in rw none (omega arith)
z_code-lt D at size (suc j) =
    let lower : bits_at j at < 2 ^ D = subst (λ n. bits_at j at < 2 ^ n) size (bits_at-lt j at) in
    let whole : 2 ^ (D * suc j) ≡ 2 ^ (D * j) * 2 ^ D =
    ap (λ n. 2 ^ n) (mul-suc D j) ∙ pow-add 2 (D * j) D in
    subst (λ n. z_code D (suc j) at < n) (sym whole)
    (mul-add-lt (bits_at j at) (2 ^ (D * j)) (z_code D j at) (2 ^ D) lower
    (z_code-lt D at size j))

pub bit_at-z_code : (D : ℕ) (at : List ℕ) → length at ≡ D → (B j d : ℕ) → j < B → d < D
    → bit_at (z_code D B at) (D * j + d) ≡ bit_at (slice_index at d) j
bit_at-z_code D at size zero j d few inside = absurd (omega arith)
bit_at-z_code D at size (suc k) j d few inside =
    ⊎_elim
    (λ lower.
    let low : D * j + d < D * k = place_below_next D j k d lower inside in
    bit_at_cat_low (bits_at k at) (D * k) (z_code D k at) (D * j + d) low
    ∙ bit_at-z_code D at size k j d lower inside)
    (λ top.
    let e : j ≡ k = omega arith in
    let past : D * j + d - D * k ≡ d = omega (arith, ap (λ n. D * n) e) in
    let high : D * k ≤ D * j + d = omega (arith, ap (λ n. D * n) e) in
    bit_at_cat_high (bits_at k at) (D * k) (z_code D k at) (D * j + d) (z_code-lt D at size k) high
    ∙ ap (bit_at (bits_at k at)) past
    ∙ bit_at-bits_at k at d (omega (arith, size)) ∙ ap (bit_at (slice_index at d)) (sym e))
    (cases_lt j k)

pub code_has_bits : (D B : ℕ) (at : List ℕ) → length at ≡ D → IsZCode D B at (z_code D B at)
code_has_bits D B at size =
    record { bits = bit_at-z_code D at size B; no_other = z_code-lt D at size B }

-- a limit of each coordinate holds past the last too
pub each_below : (B : ℕ) (at : List ℕ) → All (λ x. x < 2 ^ B) at → (d : ℕ)
    → slice_index at d < 2 ^ B
each_below B at below d =
    ⊎_elim (λ inside. below d 0 inside)
    (λ past. let none : slice_index at d ≡ 0 = get_or_past at d 0 past in
    omega (arith, none, pow_pos B)) (cases_lt d (length at))
