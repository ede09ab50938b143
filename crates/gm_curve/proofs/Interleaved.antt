-- The Z code of spread coordinates, and the coordinates of a Z code.
use Rattle.std.proofs.Common.{◌≡◌, ℕ, zero, suc, ◌+◌, ◌-◌, ◌*◌, ◌/◌, ◌%◌, ◌^◌, ◌<◌, ◌≤◌, max, List}
use Rattle.std.proofs.Common.{length, refl, sym, ap, ◌∙◌, subst, arith, lit<, lit≤}
use Rattle.std.specs.Prelude.{slice_index, All}
use Rattle.std.specs.Int.{bit_at}
use Rattle.std.specs.Int.RustNames.{bit_or}
use Rattle.std.proofs.lemmas.Nat.{pow_pos, or_lt, shl_below, shr_le, shr-shr}
use Rattle.std.proofs.lemmas.Nat.Bits.{bit_at_or, bit_at-zero, bit_at_cat_low, bit_at_cat_high}
use Rattle.std.proofs.lemmas.Nat.Bits.{same_from_bits_below}
use Rattle.std.proofs.Math.Nat.{mul-suc, mod-eq_of_lt, pow-le-pow_right, mul-le-mul_right}
use Rattle.std.proofs.lemmas.Grind.{same_number_lists}
use Rattle.std.proofs.lemmas.List.Elements.{All-from_get_or}
use Rattle.gm_curve.specs.Curve.{IsZCode, z_code}
use Rattle.gm_curve.specs.Spreading.{spread_of, gather_of}
use Rattle.gm_curve.proofs.Blocks.{spaced-lt, spaced_none}
use Rattle.gm_curve.proofs.Gathered.{bit_at-spaced, bit_between, bit_at-gathered, gathered_below}
use Rattle.gm_curve.proofs.Bits.{code_has_bits}

-- ---- a spread coordinate
bit_at-spread : (D x j : ℕ) → 1 ≤ D → j < 32 → bit_at (spread_of D x) (D * j) ≡ bit_at x j
unfolding spread_of
bit_at-spread D x j some few = bit_at-spaced D 32 x j some few

between-spread : (D x j r : ℕ) → 0 < r → r < D → bit_at (spread_of D x) (D * j + r) ≡ 0
unfolding spread_of
between-spread D x j r some few = bit_between D 32 x j r some few

spread-lt : (D x c : ℕ) → 1 ≤ D → x < 2 ^ (c + 1) → spread_of D x < 2 ^ (D * c + 1)
unfolding spread_of
spread-lt D x c some few = spaced-lt D 1 32 x c some (lit≤ tt) few

spread_none : (D : ℕ) → spread_of D 0 ≡ 0
unfolding spread_of
spread_none D = spaced_none D 1 32

-- ---- its places
own_place : (D x d j : ℕ) → 1 ≤ D → j < 32 → bit_at (spread_of D x * 2 ^ d) (D * j + d) ≡ bit_at x j
own_place D x d j some few =
    let whole : spread_of D x * 2 ^ d ≡ spread_of D x * 2 ^ d + 0 = omega arith in
    let past : D * j + d - d ≡ D * j = omega arith in
    ap (λ n. bit_at n (D * j + d)) whole
    ∙ bit_at_cat_high (spread_of D x) d 0 (D * j + d) (pow_pos d) (omega arith)
    ∙ ap (bit_at (spread_of D x)) past ∙ bit_at-spread D x j some few

later_place : (D x d j e : ℕ) → d < e → e < D → bit_at (spread_of D x * 2 ^ d) (D * j + e) ≡ 0
later_place D x d j e less few =
    let whole : spread_of D x * 2 ^ d ≡ spread_of D x * 2 ^ d + 0 = omega arith in
    let past : D * j + e - d ≡ D * j + (e - d) = omega arith in
    ap (λ n. bit_at n (D * j + e)) whole
    ∙ bit_at_cat_high (spread_of D x) d 0 (D * j + e) (pow_pos d) (omega arith)
    ∙ ap (bit_at (spread_of D x)) past
    ∙ between-spread D x j (e - d) (omega arith) (omega arith)

earlier_place : (D x d j e : ℕ) → e < d → d < D → bit_at (spread_of D x * 2 ^ d) (D * j + e) ≡ 0
earlier_place D x d zero e less few =
    let whole : spread_of D x * 2 ^ d ≡ spread_of D x * 2 ^ d + 0 = omega arith in
    ap (λ n. bit_at n (D * 0 + e)) whole
    ∙ bit_at_cat_low (spread_of D x) d 0 (D * 0 + e) (omega arith) ∙ bit_at-zero (D * 0 + e)
earlier_place D x d (suc j) e less few =
    let whole : spread_of D x * 2 ^ d ≡ spread_of D x * 2 ^ d + 0 = omega arith in
    let past : D * suc j + e - d ≡ D * j + (D + e - d) = omega (arith, mul-suc D j) in
    ap (λ n. bit_at n (D * suc j + e)) whole
    ∙ bit_at_cat_high (spread_of D x) d 0 (D * suc j + e) (pow_pos d)
    (omega (arith, mul-suc D j)) ∙ ap (bit_at (spread_of D x)) past
    ∙ between-spread D x j (D + e - d) (omega arith) (omega arith)

part_below : (D d x B : ℕ) → d < D → x < 2 ^ B → spread_of D x * 2 ^ d < 2 ^ (D * B)
part_below D d x zero few small =
    let nothing : x ≡ 0 = omega arith in
    let none : D * 0 ≡ 0 = omega arith in
    let spread : spread_of D x ≡ 0 = ap (spread_of D) nothing ∙ spread_none D in
    let product : spread_of D x * 2 ^ d ≡ 0 * 2 ^ d = ap (λ n. n * 2 ^ d) spread in
    rw none (omega (arith, product))
part_below D d x (suc c) few small =
    let more : suc c ≡ c + 1 = omega arith in
    let spread = spread-lt D x c (omega arith) (subst (λ n. x < 2 ^ n) more small) in
    let places : D * c + 1 + d ≤ D * suc c = omega (arith, mul-suc D c) in
    let most : 2 ^ (D * c + 1 + d) ≤ 2 ^ (D * suc c) = pow-le-pow_right (omega arith) places in
    omega (arith, most, shl_below (spread_of D x) (D * c + 1) d spread)

-- ---- a code of two or three coordinates
few_bits : (D B : ℕ) → 2 ≤ D → D * B ≤ 63 → B < 32
few_bits D B some fits = let h : 2 * B ≤ D * B = mul-le-mul_right B some in omega (arith, h)

whole_part : (D d x B q : ℕ) → d < D → x < 2 ^ B → D * B ≤ 63 → q ≡ spread_of D x
    → q * 2 ^ d % 2 ^ 64 ≡ spread_of D x * 2 ^ d
whole_part D d x B q few small fits is_q =
    let most : 2 ^ (D * B) ≤ 2 ^ 63 = pow-le-pow_right (omega arith) fits in
    let below : spread_of D x * 2 ^ d < 2 ^ 64 =
    omega (arith, most, part_below D d x B few small) in
    ap (λ n. n * 2 ^ d % 2 ^ 64) is_q ∙ mod-eq_of_lt below

first_part : (D x : ℕ) → spread_of D x ≡ spread_of D x * 2 ^ 0
first_part D x = omega arith

-- which of the coordinates
abbrev pick : ℕ → ℕ → ℕ → ℕ → ℕ
pick x y t zero = x
pick x y t (suc zero) = y
pick x y t (suc (suc d)) = t

picked_two : (at : List ℕ) (d j : ℕ) → d < 2
    → bit_at (pick (slice_index at 0) (slice_index at 1) (slice_index at 1) d) j
    ≡ bit_at (slice_index at d) j
picked_two at zero j inside = refl
picked_two at (suc zero) j inside = refl
picked_two at (suc (suc d)) j inside = absurd (omega arith)

joined_bit : (p q j : ℕ) → bit_at q j ≡ 0 → bit_at (bit_or p q) j ≡ bit_at p j
joined_bit p q j none = bit_at_or p q j ∙ ap (max (bit_at p j)) none ∙ omega arith

other_bit : (p q j : ℕ) → bit_at p j ≡ 0 → bit_at (bit_or p q) j ≡ bit_at q j
other_bit p q j none = bit_at_or p q j ∙ ap (λ b. max b (bit_at q j)) none ∙ omega arith

two_bits : (x y j d : ℕ) → j < 32 → d < 2
    → bit_at (bit_or (spread_of 2 x * 2 ^ 0) (spread_of 2 y * 2 ^ 1)) (2 * j + d)
    ≡ bit_at (pick x y y d) j
two_bits x y j zero few inside =
    joined_bit _ _ _ (earlier_place 2 y 1 j 0 (lit< tt) (lit< tt)) ∙ own_place 2 x 0 j (lit≤ tt) few
two_bits x y j (suc zero) few inside =
    other_bit _ _ _ (later_place 2 x 0 j 1 (lit< tt) (lit< tt)) ∙ own_place 2 y 1 j (lit≤ tt) few
two_bits x y j (suc (suc d)) few inside = absurd (omega arith)

two_joined : (B : ℕ) (at : List ℕ) (p q : ℕ) → 2 * B ≤ 63 → ((d : ℕ) → slice_index at d < 2 ^ B)
    → p ≡ spread_of 2 (slice_index at 0) → q ≡ spread_of 2 (slice_index at 1)
    → IsZCode 2 B at (bit_or p (q * 2 ^ 1 % 2 ^ 64))
two_joined B at p q fits below is_p is_q =
    let x = slice_index at 0 in
    let y = slice_index at 1 in
    let part_x = spread_of 2 x * 2 ^ 0 in
    let part_y = spread_of 2 y * 2 ^ 1 in
    let same : bit_or p (q * 2 ^ 1 % 2 ^ 64) ≡ bit_or part_x part_y =
    ap (bit_or p) (whole_part 2 1 y B q (lit< tt) (below 1) fits is_q)
    ∙ ap (λ n. bit_or n part_y) (is_p ∙ first_part 2 x) in
    subst (IsZCode 2 B at) (sym same) (record {
      bits = λ j d few inside. two_bits x y j d (omega (arith, few, few_bits 2 B (lit≤ tt) fits))
          inside ∙ picked_two at d j inside;
      no_other = or_lt (2 * B) part_x part_y (part_below 2 0 x B (lit< tt) (below 0))
          (part_below 2 1 y B (lit< tt) (below 1));
    })

three_bits : (x y t j d : ℕ) → j < 32 → d < 3
    → bit_at (bit_or (bit_or (spread_of 3 x * 2 ^ 0) (spread_of 3 y * 2 ^ 1))
    (spread_of 3 t * 2 ^ 2)) (3 * j + d) ≡ bit_at (pick x y t d) j
three_bits x y t j zero few inside =
    joined_bit _ _ _ (earlier_place 3 t 2 j 0 (lit< tt) (lit< tt))
    ∙ joined_bit _ _ _ (earlier_place 3 y 1 j 0 (lit< tt) (lit< tt))
    ∙ own_place 3 x 0 j (lit≤ tt) few
three_bits x y t j (suc zero) few inside =
    joined_bit _ _ _ (earlier_place 3 t 2 j 1 (lit< tt) (lit< tt))
    ∙ other_bit _ _ _ (later_place 3 x 0 j 1 (lit< tt) (lit< tt))
    ∙ own_place 3 y 1 j (lit≤ tt) few
three_bits x y t j (suc (suc zero)) few inside =
    other_bit _ _ _
    (joined_bit _ _ _ (later_place 3 y 1 j 2 (lit< tt) (lit< tt))
    ∙ later_place 3 x 0 j 2 (lit< tt) (lit< tt)) ∙ own_place 3 t 2 j (lit≤ tt) few
three_bits x y t j (suc (suc (suc d))) few inside = absurd (omega arith)

picked_three : (at : List ℕ) (d j : ℕ) → d < 3
    → bit_at (pick (slice_index at 0) (slice_index at 1) (slice_index at 2) d) j
    ≡ bit_at (slice_index at d) j
picked_three at zero j inside = refl
picked_three at (suc zero) j inside = refl
picked_three at (suc (suc zero)) j inside = refl
picked_three at (suc (suc (suc d))) j inside = absurd (omega arith)

three_joined : (B : ℕ) (at : List ℕ) (p q r : ℕ) → 3 * B ≤ 63 → ((d : ℕ) → slice_index at d < 2 ^ B)
    → p ≡ spread_of 3 (slice_index at 0) → q ≡ spread_of 3 (slice_index at 1)
    → r ≡ spread_of 3 (slice_index at 2)
    → IsZCode 3 B at (bit_or (bit_or p (q * 2 ^ 1 % 2 ^ 64)) (r * 2 ^ 2 % 2 ^ 64))
three_joined B at p q r fits below is_p is_q is_r =
    let x = slice_index at 0 in
    let y = slice_index at 1 in
    let t = slice_index at 2 in
    let part_x = spread_of 3 x * 2 ^ 0 in
    let part_y = spread_of 3 y * 2 ^ 1 in
    let part_t = spread_of 3 t * 2 ^ 2 in
    let same : bit_or (bit_or p (q * 2 ^ 1 % 2 ^ 64)) (r * 2 ^ 2 % 2 ^ 64)
    ≡ bit_or (bit_or part_x part_y) part_t =
    ap (bit_or (bit_or p (q * 2 ^ 1 % 2 ^ 64))) (whole_part 3 2 t B r (lit< tt) (below 2) fits is_r)
    ∙ ap (λ n. bit_or (bit_or p n) part_t) (whole_part 3 1 y B q (lit< tt) (below 1) fits is_q)
    ∙ ap (λ n. bit_or (bit_or n part_y) part_t) (is_p ∙ first_part 3 x) in
    let below_x = part_below 3 0 x B (lit< tt) (below 0) in
    let below_y = part_below 3 1 y B (lit< tt) (below 1) in
    subst (IsZCode 3 B at) (sym same) (record {
      bits = λ j d few inside. three_bits x y t j d
          (omega (arith, few, few_bits 3 B (lit≤ tt) fits)) inside ∙ picked_three at d j inside;
      no_other = or_lt (3 * B) (bit_or part_x part_y) part_t
          (or_lt (3 * B) part_x part_y below_x below_y) (part_below 3 2 t B (lit< tt) (below 2));
    })

pub two_interleaved : (D B : ℕ) (at : List ℕ) (p q : ℕ) → D ≡ 2 → D * B ≤ 63
    → ((d : ℕ) → slice_index at d < 2 ^ B) → p ≡ spread_of 2 (slice_index at 0)
    → q ≡ spread_of 2 (slice_index at 1)
    → IsZCode D B at (bit_or p (q * 2 ^ 1 % 2 ^ 64))
two_interleaved D B at p q two fits below is_p is_q =
    subst (λ n. IsZCode n B at (bit_or p (q * 2 ^ 1 % 2 ^ 64))) (sym two)
    (two_joined B at p q (subst (λ n. n * B ≤ 63) two fits) below is_p is_q)

pub three_interleaved : (D B : ℕ) (at : List ℕ) (p q r : ℕ) → D ≡ 3 → D * B ≤ 63
    → ((d : ℕ) → slice_index at d < 2 ^ B) → p ≡ spread_of 3 (slice_index at 0)
    → q ≡ spread_of 3 (slice_index at 1) → r ≡ spread_of 3 (slice_index at 2)
    → IsZCode D B at (bit_or (bit_or p (q * 2 ^ 1 % 2 ^ 64)) (r * 2 ^ 2 % 2 ^ 64))
three_interleaved D B at p q r three fits below is_p is_q is_r =
    subst (λ n. IsZCode n B at (bit_or (bit_or p (q * 2 ^ 1 % 2 ^ 64)) (r * 2 ^ 2 % 2 ^ 64)))
    (sym three) (three_joined B at p q r (subst (λ n. n * B ≤ 63) three fits) below
    is_p is_q is_r)

pub third_fits : (D B x : ℕ) → D ≡ 3 → D * B ≤ 63 → x < 2 ^ B → x < 2 ^ 21
third_fits D B x three fits below =
    let whole : 3 * B ≤ 63 = subst (λ n. n * B ≤ 63) three fits in
    let few : B ≤ 21 = omega arith in
    let most : 2 ^ B ≤ 2 ^ 21 = pow-le-pow_right (omega arith) few in
    omega (arith, most)

-- ---- the coordinates of a code
bit_at-gather : (D c j : ℕ) → j < 32 → bit_at (gather_of D c) j ≡ bit_at c (D * j)
unfolding gather_of
bit_at-gather D c j few = bit_at-gathered D 32 c j few

gather-lt : (D c b : ℕ) → c < 2 ^ (D * b) → gather_of D c < 2 ^ b
unfolding gather_of
gather-lt D c b few = gathered_below D 32 c b few

pub gathered_code : (D B code : ℕ) (at : List ℕ) → 2 ≤ D → D * B ≤ 63 → code < 2 ^ (D * B)
    → ((d : ℕ) → d < D → slice_index at d ≡ gather_of D (code / 2 ^ d)) → IsZCode D B at code
gathered_code D B code at some fits below is_at = record {
  bits = λ j d few inside.
      let turned : d + D * j ≡ D * j + d = omega arith in
      sym (ap (λ x. bit_at x j) (is_at d inside)
      ∙ bit_at-gather D (code / 2 ^ d) j (omega (arith, few, few_bits D B some fits))
      ∙ ap (λ n. n % 2) (shr-shr code d (D * j)) ∙ ap (bit_at code) turned);
  no_other = below;
}

pub gathered_fit : (D B code : ℕ) (at : List ℕ) → code < 2 ^ (D * B)
    → ((d : ℕ) → d < length at → slice_index at d ≡ gather_of D (code / 2 ^ d))
    → All (λ x. x < 2 ^ B) at
gathered_fit D B code at below is_at =
    All-from_get_or (λ x. x < 2 ^ B) at 0
    (λ d inside. subst (λ x. x < 2 ^ B) (sym (is_at d inside))
    (gather-lt D (code / 2 ^ d) B (omega (arith, below, shr_le code d))))

pub same_coordinates : (D B : ℕ) (a b : List ℕ) → length a ≡ D → length b ≡ D
    → All (λ x. x < 2 ^ B) a → All (λ x. x < 2 ^ B) b → z_code D B a ≡ z_code D B b → a ≡ b
same_coordinates D B a b size_a size_b below_a below_b same =
    let code_a = code_has_bits D B a size_a in
    let code_b = code_has_bits D B b size_b in
    same_number_lists a b (size_a ∙ sym size_b) (λ d inside.
    same_from_bits_below B (slice_index a d) (slice_index b d) (below_a d 0 inside)
    (below_b d 0 (omega (arith, size_a, size_b))) (λ j few.
    let within : d < D = omega (arith, size_a) in
    sym (code_a.bits j d few within) ∙ ap (λ c. bit_at c (D * j + d)) same
    ∙ code_b.bits j d few within))
