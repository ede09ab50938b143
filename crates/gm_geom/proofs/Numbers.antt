-- Digits, and the rounding of powers of ten.
use Rattle.std.proofs.Common.{◌≡◌, ℕ, zero, suc, drop-cons, ◌+◌, ◌-◌, ◌*◌, ◌/◌, ◌^◌, ◌<◌, ◌≤◌, Bool}
use Rattle.std.proofs.Common.{true, false, ◌&&◌, cond, List, [], ◌∷◌, ◌++◌, length, take, drop}
use Rattle.std.proofs.Common.{get_or, refl, sym, ap, ◌∙◌, arith, add-one, lit<, Some, leb as nat_le}
use Rattle.std.proofs.Common.{le-leb}
use Rattle.std.specs.List.{list_all, prefix_len}
use Rattle.std.specs.Char.{is_ascii_digit, digit_value}
use Rattle.std.specs.Str.Parse.{digits_value, digits_value_after}
use Rattle.std.proofs.lemmas.Nat.{pow-add, div-mul-add}
use Rattle.std.proofs.lemmas.Bool.{and_parts}
use Rattle.std.proofs.lemmas.Bool.Decides.{nat_tests}
use Rattle.std.proofs.Math.Nat.{mul-div-mul_left, add-mul-div_right, div-div-eq-div-mul, pow-succ'}
use Rattle.std.proofs.Math.Nat.{one-le-pow, pow-le-pow_right}
use Rattle.gm_geom.specs.declared.number.Exponent.{Exponent}
use Rattle.gm_geom.specs.Number.{AreDigits, nearest, digits_at, behind_digits, fraction_at}
use Rattle.gm_geom.specs.Number.{behind_fraction, exponent_of, mantissa_number, unsigned_number}

pub pow_pos : (k : ℕ) → 0 < 10 ^ k
pow_pos k = omega (arith, one-le-pow k 10 (lit< tt))

-- the places of a product fall away where there are enough of them
pub nearest_up : (n down k : ℕ) → nearest (n * 10 ^ (down + k)) (10 ^ down) ≡ n * 10 ^ k
nearest_up n down k = rw (pow-add 10 down k) (whole n (10 ^ down) (10 ^ k) (pow_pos down))
  where
    apart : (n p q : ℕ) → 2 * (n * (p * q)) + p ≡ n * q * (2 * p) + p
    apart n p q = grind arith

    whole : (n p q : ℕ) → 0 < p → nearest (n * (p * q)) p ≡ n * q
    whole n p q some =
        ap (λ a. a / (2 * p)) (apart n p q) ∙ div-mul-add (n * q) (2 * p) p (omega arith)

pub nearest_down : (n up k : ℕ) → nearest (n * 10 ^ up) (10 ^ (up + k)) ≡ nearest n (10 ^ k)
nearest_down n up k = rw (pow-add 10 up k) (less n (10 ^ up) (10 ^ k) (pow_pos up))
  where
    above : (n p q : ℕ) → 2 * (n * p) + p * q ≡ p * (2 * n + q)
    above n p q = grind arith

    below : (p q : ℕ) → 2 * (p * q) ≡ p * (2 * q)
    below p q = grind arith

    less : (n p q : ℕ) → 0 < p → nearest (n * p) (p * q) ≡ nearest n q
    less n p q some =
        ap (λ a. a / (2 * (p * q))) (above n p q) ∙ ap (λ b. p * (2 * n + q) / b) (below p q)
        ∙ mul-div-mul_left (2 * n + q) (2 * q) some

-- a half of an even number of parts, place by place
half_even : (n h : ℕ) → 0 < h → nearest n (2 * h) ≡ (n + h) / (2 * h)
half_even n h some = ap (λ a. a / (2 * (2 * h))) twice ∙ mul-div-mul_left (n + h) (2 * h) (lit< tt)
  where
    twice : 2 * n + 2 * h ≡ 2 * (n + h)
    twice = omega arith

pub nearest_step : (n k : ℕ) → 0 < k → nearest (n / 10) (10 ^ k) ≡ nearest n (10 ^ (k + 1))
nearest_step n zero some = absurd (omega arith)
nearest_step n (suc j) some = whole
  where
    even : 10 ^ suc j ≡ 2 * (5 * 10 ^ j)
    even = pow-succ' 10 j ∙ omega arith

    more : 10 ^ (suc j + 1) ≡ 2 * (10 * (5 * 10 ^ j))
    more = ap (λ k. 10 ^ k) (add-one (suc j)) ∙ pow-succ' 10 (suc j) ∙ ap (λ p. 10 * p) even
        ∙ omega arith

    some_h : 0 < 5 * 10 ^ j
    some_h = omega (arith, pow_pos j)

    step : (n h : ℕ) → 0 < h → nearest (n / 10) (2 * h) ≡ nearest n (2 * (10 * h))
    step n h some =
        half_even (n / 10) h some ∙ ap (λ a. a / (2 * h)) (sym (add-mul-div_right n h (lit< tt)))
        ∙ div-div-eq-div-mul (n + h * 10) 10 (2 * h) ∙ ap (λ b. (n + h * 10) / b) (omega arith)
        ∙ ap (λ a. (n + a) / (2 * (10 * h))) (omega arith)
        ∙ sym (half_even n (10 * h) (omega arith))

    whole : nearest (n / 10) (10 ^ suc j) ≡ nearest n (10 ^ (suc j + 1))
    whole = ap (λ p. nearest (n / 10) p) even ∙ step n (5 * 10 ^ j) some_h
        ∙ ap (λ p. nearest n p) (sym more)

-- each of them is a digit
pub digit_in : (ds : List ℕ) (i d : ℕ) → AreDigits ds → i < length ds
    → is_ascii_digit (get_or ds i d) ≡ true
digit_in [] i d all below = absurd (omega arith)
digit_in (b ∷ ds) zero d all below =
    (and_parts (is_ascii_digit b) (list_all is_ascii_digit ds) all).0
digit_in (b ∷ ds) (suc i) d all below =
    digit_in ds i d (and_parts (is_ascii_digit b) (list_all is_ascii_digit ds) all).1 (omega arith)

pub digit_low : (c : ℕ) → is_ascii_digit c ≡ true → 48 ≤ c
digit_low c e = grind (arith, nat_tests)

pub digit_high : (c : ℕ) → is_ascii_digit c ≡ true → c < 58
digit_high c e = grind (arith, nat_tests)

pub digit_value_is : (c : ℕ) → is_ascii_digit c ≡ true → digit_value c ≡ c - 48
digit_value_is c e = let low : 48 ≤ c = digit_low c e in let high : c < 58 = digit_high c e in
    grind (arith, nat_tests)

next : (b n : ℕ) (bytes : List ℕ) → is_ascii_digit b ≡ true → AreDigits (take n bytes)
    → AreDigits (take (1 + n) (b ∷ bytes))
next b n bytes digit rest =
    rw (one_more n) (ap (λ t. t && list_all is_ascii_digit (take n bytes)) digit ∙ rest)
  where
    one_more : (n : ℕ) → 1 + n ≡ suc n
    one_more n = omega arith

-- the digits at the front are digits
pub front_digits : (bytes : List ℕ) → AreDigits (take (prefix_len is_ascii_digit bytes) bytes)
front_digits [] = refl
front_digits (b ∷ bytes) =
    elim (is_ascii_digit b) as
    (λ t. is_ascii_digit b ≡ t
    → AreDigits (take (cond t (1 + prefix_len is_ascii_digit bytes) 0) (b ∷ bytes))) [
      | true ↦ λ e. next b (prefix_len is_ascii_digit bytes) bytes e (front_digits bytes)
      | false ↦ λ e. refl
    ] refl

-- one more digit
pub more_room : (n d len i : ℕ) → len ≤ 38 → i < len → d < 10 → n < 10 ^ (38 - (len - i))
    → n * 10 + d < 10 ^ (38 - (len - (i + 1)))
more_room n d len i few below digit room =
    let e : 38 - (len - (i + 1)) ≡ suc (38 - (len - i)) = omega arith in
    rw (e, pow-succ') (omega arith)

pub more_bound : (n d k i : ℕ) → d < 10 → n < 10 ^ (k + i) → n * 10 + d < 10 ^ (k + (i + 1))
more_bound n d k i digit bound =
    let e : k + (i + 1) ≡ suc (k + i) = omega arith in
    rw (e, pow-succ') (omega arith)

pub fits_wide : (n k : ℕ) → k ≤ 37 → n < 10 ^ k → n * 10 + 9 < 2 ^ 128
fits_wide n k small bound =
    let most : 10 ^ k ≤ 10 ^ 37 = pow-le-pow_right (lit< tt) small in
    omega arith

pub raised_more : (n k : ℕ) → 0 < k → n * 10 * 10 ^ (k - 1) ≡ n * 10 ^ k
raised_more n k some =
    let e : k ≡ suc (k - 1) = omega arith in
    let q : 10 ^ k ≡ 10 * 10 ^ (k - 1) = ap (λ j. 10 ^ j) e ∙ pow-succ' 10 (k - 1) in
    rw q (regroup n (10 ^ (k - 1)))
  where
    regroup : (n p : ℕ) → n * 10 * p ≡ n * (10 * p)
    regroup n p = omega arith

pub raised_over : (n k m j : ℕ) → n * 10 ^ k ≡ m * 10 ^ j → 2147483648 < n → 2147483648 < m * 10 ^ j
raised_over n k m j e over = rw (← e) (larger n (10 ^ k) over (pow_pos k))
  where
    larger : (n p : ℕ) → 2147483648 < n → 0 < p → 2147483648 < n * p
    larger n p over some = grind arith

-- digits behind digits
pub digits_value-append : (n : ℕ) (xs ys : List ℕ)
    → digits_value_after 10 n (xs ++ ys) ≡ digits_value_after 10 (digits_value_after 10 n xs) ys
digits_value-append n [] ys = refl
digits_value-append n (x ∷ xs) ys = digits_value-append (n * 10 + digit_value x) xs ys

-- the digits of the fraction still fit behind those of the whole part
pub room_behind : (n w f : ℕ) → w + f ≤ 38 → ((k : ℕ) → 0 < 10 ^ k → n < 10 ^ (k + w))
    → n < 10 ^ (38 - f)
room_behind n w f few bound =
    let small : n < 10 ^ (0 + w) = bound 0 (lit< tt) in
    let most : 10 ^ (0 + w) ≤ 10 ^ (38 - f) = pow-le-pow_right (lit< tt) (omega arith) in
    omega arith

pub fits_behind : (n m w f : ℕ) → w + f ≤ 38 → ((k : ℕ) → 0 < 10 ^ k → n < 10 ^ (k + w))
    → ((k : ℕ) → n < 10 ^ k → m < 10 ^ (k + f)) → m < 10 ^ 38
fits_behind n m w f few first second =
    let small : m < 10 ^ (0 + w + f) = second (0 + w) (first 0 (lit< tt)) in
    let some : w + f ≤ 38 = few in
    let most : 10 ^ (0 + w + f) ≤ 10 ^ 38 =
    pow-le-pow_right (lit< tt) {i = 0 + w + f} {j = 38} (omega arith) in
    omega arith

-- a number whose parts are read
pub read_number : (negative : Bool) (w f r bytes : List ℕ) (e : Exponent) (v : ℕ)
    → 0 < length w + length f → w ≡ digits_at bytes → f ≡ fraction_at (behind_digits bytes)
    → r ≡ behind_fraction (behind_digits bytes) → exponent_of r ≡ Some e
    → v ≡ digits_value_after 10 (digits_value_after 10 0 w) f
    → Some (record { negative = negative; value = v; places = length f; exponent = e })
    ≡ unsigned_number negative bytes
read_number negative w f r bytes e v some ew ef er ee ev =
    parts ∙ ap (λ x. mantissa_number negative x f (exponent_of r)) ew
    ∙ ap (λ x. mantissa_number negative (digits_at bytes) x (exponent_of r)) ef
    ∙ ap (λ x. mantissa_number negative (digits_at bytes) (fraction_at (behind_digits bytes))
    (exponent_of x)) er
  where
    test : nat_le 1 (length w + length f) ≡ true
    test = le-leb _ _ some

    value : v ≡ digits_value 10 (w ++ f)
    value = ev ∙ sym (digits_value-append 0 w f)

    parts : Some (record { negative = negative; value = v; places = length f; exponent = e })
        ≡ mantissa_number negative w f (exponent_of r)
    parts = rw (ee, test, value) refl

pub step_value : (n v : ℕ) (s : List ℕ) (i : ℕ) → i < length s → v ≡ get_or s i 0 - 48
    → is_ascii_digit (get_or s i 0) ≡ true
    → digits_value_after 10 (n * 10 + v) (drop (i + 1) s) ≡ digits_value_after 10 n (drop i s)
step_value n v s i below ev digit =
    rw (add-one, drop-cons s i 0)
    (ap (λ x. digits_value_after 10 (n * 10 + x) (drop (suc i) s))
    (ev ∙ sym (digit_value_is (get_or s i 0) digit)))
