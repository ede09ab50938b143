-- The level of an object, by its longest side.
use Rattle.std.proofs.Common.{◌≡◌, ◌⊎◌, ⊎_elim, inl, inr, ℕ, zero, suc, ◌+◌, ◌-◌, ◌*◌, ◌/◌, ◌^◌}
use Rattle.std.proofs.Common.{◌<◌, ◌≤◌, Bool, true, false, ◌&&◌, cond, leb, List, [], ◌∷◌, length}
use Rattle.std.proofs.Common.{refl, sym, ap, ◌∙◌, subst, arith}
use Rattle.std.specs.Prelude.{slice_index, All}
use Rattle.std.specs.Int.Count.{count_leading_zeros}
use Rattle.std.proofs.lemmas.Bool.{cases_lt, le-leb, leb-true, and_parts, false≢true}
use Rattle.std.proofs.lemmas.List.{get_or_past}
use Rattle.std.proofs.lemmas.Nat.{pow_pos, pow-add, div_below, mod_below, div-add-mod'}
use Rattle.std.proofs.lemmas.Nat.{leading_length}
use Rattle.std.proofs.Math.Nat.{pow-le-pow_right, mul-le-mul_right}
use Rattle.std.proofs.lemmas.List.Elements.{All-from_get_or}
use Rattle.gm_curve.specs.Curve.{IsAtMost}
use Rattle.gm_curve.specs.Xz.{IsCovered, IsLevel, is_covered, greatest, level_of}

-- ---- cells and sides
one_cell_more : (S l h side : ℕ) → 0 < S → h ≤ l + side → side < S → h / S ≤ l / S + 1
one_cell_more S l h side some most less =
    let within : h < (l / S + 2) * S = omega (arith, div-add-mod' l S, mod_below l S some) in
    let below : h / S < l / S + 2 = div_below h S (l / S + 2) some within in
    omega arith

two_cells : (S l h : ℕ) → 0 < S → h / S ≤ l / S + 1 → h ≤ l + (2 * S - 1)
two_cells S l h some touch =
    let most : h / S * S ≤ (l / S + 1) * S = mul-le-mul_right S touch in
    omega (arith, most, div-add-mod' l S, div-add-mod' h S, mod_below h S some)

covered_by_side : (s side : ℕ) (low high : List ℕ)
    → ((d : ℕ) → slice_index high d ≤ slice_index low d + side) → side < 2 ^ s
    → IsCovered (2 ^ s) low high
covered_by_side s side low high most less d inside =
    one_cell_more (2 ^ s) (slice_index low d) (slice_index high d) side (pow_pos s) (most d) less

side_by_covered : (s : ℕ) (low high : List ℕ) → length high ≡ length low
    → IsCovered (2 ^ s) low high → (d : ℕ)
    → slice_index high d ≤ slice_index low d + (2 * 2 ^ s - 1)
side_by_covered s low high same covered d = ⊎_elim
    (λ inside. two_cells (2 ^ s) (slice_index low d) (slice_index high d) (pow_pos s)
    (covered d inside))
    (λ past. let none : slice_index high d ≡ 0 = get_or_past high d 0 (omega (arith, same, past)) in
    omega (arith, none))
    (cases_lt d (length low))

power_less : (m n : ℕ) → 2 ^ m < 2 ^ n → m < n
power_less m n less =
    ⊎_elim (λ fine. fine)
    (λ past. let most : 2 ^ n ≤ 2 ^ m = pow-le-pow_right (omega arith) past in
    absurd (omega (arith, most, less))) (cases_lt m n)

-- the side of m binary digits is no less than what a covered cell leaves
no_finer : (m s side : ℕ) (low high : List ℕ) → length high ≡ length low
    → ((n : ℕ) → ((d : ℕ) → slice_index high d ≤ slice_index low d + n) → side ≤ n)
    → 2 ^ m ≤ 2 * side + 1
    → IsCovered (2 ^ s) low high → m ≤ s + 1
no_finer m s side low high same least digits covered =
    let most : side ≤ 2 * 2 ^ s - 1 =
    least (2 * 2 ^ s - 1) (side_by_covered s low high same covered) in
    let less : m < s + 2 =
    power_less m (s + 2) (omega (arith, most, digits, pow-add 2 s 2, pow_pos s)) in
    omega arith

-- ---- the level
level_finer : (G m side : ℕ) (low high : List ℕ) → length high ≡ length low
    → ((n : ℕ) → ((d : ℕ) → slice_index high d ≤ slice_index low d + n) → side ≤ n)
    → 2 ^ m ≤ 2 * side + 1 → m ≤ G
    → IsCovered (2 ^ (m - 1)) low high → IsLevel G low high (G - (m - 1))
level_finer G m side low high same least digits few covered = record {
  most = omega arith;
  covered = let back : G - (G - (m - 1)) ≡ m - 1 = omega arith in rw back covered;
  greatest = λ k deep other. omega
      (arith, deep, no_finer m (G - k) side low high same least digits other);
}

level_coarser : (G m side : ℕ) (low high : List ℕ) → length high ≡ length low
    → ((d : ℕ) → slice_index high d ≤ slice_index low d + side)
    → ((n : ℕ) → ((d : ℕ) → slice_index high d ≤ slice_index low d + n) → side ≤ n)
    → side < 2 ^ m → 2 ^ m ≤ 2 * side + 1 → m ≤ G → (IsCovered (2 ^ (m - 1)) low high → ⊥)
    → IsLevel G low high (G - m)
level_coarser G m side low high same most least below digits few none = record {
  most = omega arith;
  covered = let back : G - (G - m) ≡ m = omega arith in
      rw back (covered_by_side m side low high most below);
  greatest = λ k deep other. ⊎_elim
      (λ finer.
      let less : G - k < m = finer in
      let exact : G - k ≡ m - 1 =
      omega (arith, less, no_finer m (G - k) side low high same least digits other) in
      absurd (none (subst (λ s. IsCovered (2 ^ s) low high) exact other)))
      (λ coarser. let more : m ≤ G - k = coarser in omega (arith, more, deep))
      (cases_lt (G - k) m);
}

few_digits : (G m side : ℕ) (low high : List ℕ) → ((d : ℕ) → slice_index high d < 2 ^ G)
    → ((n : ℕ) → ((d : ℕ) → slice_index high d ≤ slice_index low d + n) → side ≤ n)
    → 2 ^ m ≤ 2 * side + 1 → m ≤ G
few_digits G m side low high below least digits =
    let most : side ≤ 2 ^ G - 1 = least (2 ^ G - 1) (λ d. omega (arith, below d)) in
    let less : m < G + 1 =
    power_less m (G + 1) (omega (arith, most, digits, pow-add 2 G 1, pow_pos G)) in
    omega arith

level_some : (G l : ℕ) (low high : List ℕ) → 1 ≤ G → ((d : ℕ) → slice_index high d < 2 ^ G)
    → IsLevel G low high l → 1 ≤ l
level_some G l low high least below is = is.greatest 1 least (λ d inside.
    let half : 2 ^ G ≡ 2 * 2 ^ (G - 1) = let e : G ≡ 1 + (G - 1) = omega arith in
    ap (λ n. 2 ^ n) e ∙ pow-add 2 1 (G - 1) in
    let first : slice_index high d / 2 ^ (G - 1) < 2 =
    div_below (slice_index high d) (2 ^ (G - 1)) 2 (pow_pos (G - 1))
    (omega (arith, half, below d)) in
    omega (arith, first))

-- ---- the level as a number
covered_test : (side : ℕ) (low high : List ℕ) → length high ≡ length low → IsCovered side low high
    → is_covered side low high ≡ true
covered_test side [] high same covered = refl
covered_test side (l ∷ low) [] same covered = refl
covered_test side (l ∷ low) (h ∷ high) same covered =
    ap (λ b. b && is_covered side low high)
    (le-leb (h / side) (l / side + 1) (covered 0 (omega arith)))
    ∙ covered_test side low high (omega (arith, same)) (λ d inside. covered (suc d) (omega arith))

test_covered : (side : ℕ) (low high : List ℕ) → length high ≡ length low
    → is_covered side low high ≡ true → IsCovered side low high
test_covered side [] high same test = λ d inside. absurd (omega arith)
test_covered side (l ∷ low) [] same test = absurd (omega (arith, same))
test_covered side (l ∷ low) (h ∷ high) same test =
    let parts = and_parts (leb (h / side) (l / side + 1)) (is_covered side low high) test in
    λ d inside. elim d as
    (λ n. n < length (l ∷ low)
    → slice_index (h ∷ high) n / side ≤ slice_index (l ∷ low) n / side + 1) [
      | zero ↦ λ first. leb-true (h / side) (l / side + 1) parts.0
      | suc n ↦ λ later. test_covered side low high (omega (arith, same)) parts.1 n (omega arith)
    ] inside

greatest_most : (n : ℕ) (test : ℕ → Bool) → greatest n test ≤ n
greatest_most zero test = omega arith
greatest_most (suc n) test = either (test (suc n)) (greatest_most n test)
  where
    either : (b : Bool) → greatest n test ≤ n → cond b (suc n) (greatest n test) ≤ suc n
    either true h = omega arith
    either false h = omega arith

passes_case : (b : Bool) (m g : ℕ) (test : ℕ → Bool) → test m ≡ b → (g ≡ 0) ⊎ (test g ≡ true)
    → (cond b m g ≡ 0) ⊎ (test (cond b m g) ≡ true)
passes_case true m g test is rest = inr is
passes_case false m g test is rest = rest

greatest_passes : (n : ℕ) (test : ℕ → Bool)
    → (greatest n test ≡ 0) ⊎ (test (greatest n test) ≡ true)
greatest_passes zero test = inl refl
greatest_passes (suc n) test =
    passes_case (test (suc n)) (suc n) (greatest n test) test refl (greatest_passes n test)

above_case : (b : Bool) (n k g : ℕ) (test : ℕ → Bool) → test (suc n) ≡ b → k ≤ suc n → test k ≡ true
    → (k ≤ n → k ≤ g) → k ≤ cond b (suc n) g
above_case true n k g test is few passes rest = few
above_case false n k g test is few passes rest = ⊎_elim
    (λ lower. rest (omega arith))
    (λ top. let same : suc n ≡ k = omega arith in
    absurd (false≢true (sym is ∙ ap test same ∙ passes)))
    (cases_lt k (suc n))

greatest_above : (n : ℕ) (test : ℕ → Bool) (k : ℕ) → k ≤ n → test k ≡ true → k ≤ greatest n test
greatest_above zero test k few passes = few
greatest_above (suc n) test k few passes =
    above_case (test (suc n)) n k (greatest n test) test refl few passes
    (λ lower. greatest_above n test k lower passes)

level_number : (G l : ℕ) (low high : List ℕ) → length high ≡ length low → IsLevel G low high l
    → l ≡ level_of G low high
level_number G l low high same is =
    let test : ℕ → Bool = λ k. is_covered (2 ^ (G - k)) low high in
    let above : l ≤ level_of G low high =
    greatest_above G test l is.most (covered_test (2 ^ (G - l)) low high same is.covered) in
    let below : level_of G low high ≤ l = ⊎_elim
    (λ none. let e : level_of G low high ≡ 0 = none in omega (arith, e))
    (λ passes. is.greatest (level_of G low high) (greatest_most G test)
    (test_covered (2 ^ (G - level_of G low high)) low high same passes))
    (greatest_passes G test) in
    omega arith

-- how many binary digits a side has
digits_of : (side : ℕ) → side < 2 ^ 32
    → (side < 2 ^ (32 - count_leading_zeros 32 side))
    × (2 ^ (32 - count_leading_zeros 32 side) ≤ 2 * side + 1)
digits_of side fits =
    let found = leading_length 32 side fits in
    let m : 32 - count_leading_zeros 32 side ≡ found.0 = omega (arith, found.1) in
    (subst (λ n. side < 2 ^ n) (sym m) found.2, subst (λ n. 2 ^ n ≤ 2 * side + 1) (sym m) found.3)

abbrev pub digits : ℕ → ℕ
digits side = 32 - count_leading_zeros 32 side

-- what is promised of the level
pub record Found (G l : ℕ) (low high : List ℕ) : Type 0 where
  pub number : l ≡ level_of G low high
  pub is : IsLevel G low high l
  pub some : 1 ≤ l

found : (G l : ℕ) (low high : List ℕ) → 1 ≤ G → length high ≡ length low
    → ((d : ℕ) → slice_index high d < 2 ^ G) → IsLevel G low high l → Found G l low high
found G l low high least same below is =
    record {
      number = level_number G l low high same is;
      is = is;
      some = level_some G l low high least below is;
    }

-- the side, less one, that is the longest
pub record IsLongest (low high : List ℕ) (side : ℕ) : Type 0 where
  pub most : (d : ℕ) → slice_index high d ≤ slice_index low d + side
  pub least : (n : ℕ) → ((d : ℕ) → slice_index high d ≤ slice_index low d + n) → side ≤ n

pub digits_most : (G side : ℕ) (low high : List ℕ) → ((d : ℕ) → slice_index high d < 2 ^ G)
    → side < 2 ^ 32 → IsLongest low high side → digits side ≤ G
digits_most G side low high below fits is =
    few_digits G (digits side) side low high below is.least (digits_of side fits).1

pub found_finer : (G side : ℕ) (low high : List ℕ) → 1 ≤ G → length high ≡ length low
    → ((d : ℕ) → slice_index high d < 2 ^ G) → side < 2 ^ 32 → IsLongest low high side
    → IsCovered (2 ^ (digits side - 1)) low high → Found G (G - (digits side - 1)) low high
found_finer G side low high some same below fits is covered =
    found G (G - (digits side - 1)) low high some same below
    (level_finer G (digits side) side low high same is.least (digits_of side fits).1
    (digits_most G side low high below fits is) covered)

pub found_coarser : (G side : ℕ) (low high : List ℕ) → 1 ≤ G → length high ≡ length low
    → ((d : ℕ) → slice_index high d < 2 ^ G) → side < 2 ^ 32 → IsLongest low high side
    → (IsCovered (2 ^ (digits side - 1)) low high → ⊥) → Found G (G - digits side) low high
found_coarser G side low high some same below fits is none =
    let size = digits_of side fits in
    found G (G - digits side) low high some same below
    (level_coarser G (digits side) side low high same is.most is.least size.0 size.1
    (digits_most G side low high below fits is) none)

pub low_fits : (G : ℕ) (low high : List ℕ) → G ≤ 16 → IsAtMost low high
    → ((d : ℕ) → slice_index high d < 2 ^ G) → All (λ x. x < 2 ^ 31) low
low_fits G low high few ordered below =
    let small : 2 ^ G ≤ 2 ^ 16 = pow-le-pow_right (omega arith) few in
    All-from_get_or (λ x. x < 2 ^ 31) low 0 (λ d inside. omega (arith, small, ordered d, below d))
