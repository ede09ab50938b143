-- Printed numbers, fixed and whole, are pieces of numbers.
use Rattle.std.proofs.Common.{◌≡◌, ℕ, ℤ, pos, negsuc, zero, suc, ◌+◌, ◌/◌, ◌%◌, ◌<◌, ◌≤◌, ◌^◌, Bool}
use Rattle.std.proofs.Common.{true, false, ◌&&◌, ◌==◌, cond, List, [], ◌∷◌, ◌++◌, length, drop}
use Rattle.std.proofs.Common.{Option, Some, None, Ok, refl, sym, ◌∙◌, ap, subst, arith, append-nil}
use Rattle.std.specs.Prelude.{IsSome, unsigned_abs, nat_le}
use Rattle.std.specs.List.{list_all}
use Rattle.std.specs.Char.{is_ascii_digit}
use Rattle.std.specs.Fmt.{signed_decimal, decimal}
use Rattle.std.specs.Str.Parse.{starts_with_minus, without_leading_sign, without_leading_plus}
use Rattle.std.proofs.lemmas.Bool.{le-leb, and_parts}
use Rattle.std.proofs.lemmas.Bool.Decides.{nat_tests}
use Rattle.std.proofs.lemmas.Fmt.{digits_decimal, decimal_nonempty, length-decimal-le_wide}
use Rattle.std.proofs.lemmas.List.Folds.{list_all-append}
use mir.Syntax.{w32}
use mir.Val.{SFits}
use Rattle.gm_base.proofs.Numbers.{no_plus}
use Rattle.gm_feature.specs.Value.{is_below}
use Rattle.gm_geom.specs.Number.{number_of, if_number, fixed_of, fixed_text, fraction_text}
use Rattle.gm_geom.specs.Number.{places_of, degree, digits_at, behind_digits, fraction_at}
use Rattle.gm_geom.specs.Number.{behind_fraction, exponent_of, mantissa_number, unsigned_number}
use Rattle.gm_ecql.specs.Token.{a_number}
use Rattle.gm_ecql.proofs.Complete.{digit_starts}
use Rattle.gm_ecql.proofs.PrintedNumbers.{IsSigned, is_no_dash, number_piece}
use Rattle.gm_ecql.proofs.Scans.{take_run, drop_run}
use Rattle.gm_ecql.proofs.Sequences.{Printed}
use Rattle.gm_ecql.proofs.Wholes.{own, same_digits}

decimal_digits : (n : ℕ) → n < 2 ^ 64 → list_all is_ascii_digit (decimal n) ≡ true
decimal_digits n h = sym (same_digits (decimal n)) ∙ digits_decimal own n h

digit_no_dash : (b : ℕ) → is_ascii_digit b ≡ true → is_no_dash b ≡ true
digit_no_dash b e = grind (arith, nat_tests)

no_dashes : (ds : List ℕ) → list_all is_ascii_digit ds ≡ true → list_all is_no_dash ds ≡ true
no_dashes [] e = refl
no_dashes (d ∷ ds) e =
    let p = and_parts (is_ascii_digit d) (list_all is_ascii_digit ds) e in
    ap (λ x. x && list_all is_no_dash ds) (digit_no_dash d p.0) ∙ no_dashes ds p.1

no_dashes_more : (ds rest : List ℕ) → list_all is_ascii_digit ds ≡ true
    → list_all is_no_dash rest ≡ true → list_all is_no_dash (ds ++ rest) ≡ true
no_dashes_more ds rest e f =
    list_all-append is_no_dash ds rest
    ∙ ap (λ x. x && list_all is_no_dash rest) (no_dashes ds e) ∙ f

digits_signed : (ds rest : List ℕ) → list_all is_ascii_digit ds ≡ true → 0 < length ds
    → list_all is_no_dash rest ≡ true → IsSigned (ds ++ rest)
digits_signed [] rest e some f = absurd (omega (arith, some))
digits_signed (d ∷ ds) rest e some f =
    let p = and_parts (is_ascii_digit d) (list_all is_ascii_digit ds) e in
    (digit_starts d p.0, no_dashes_more ds rest p.1 f)

place_no_dash : (m : ℕ) → is_no_dash (48 + m) ≡ true
place_no_dash m = grind (arith, nat_tests)

places_no_dash : (n rest : ℕ) → list_all is_no_dash (places_of n rest) ≡ true
unfolding places_of
places_no_dash zero rest = refl
places_no_dash (suc n) rest =
    elim (rest == 0) as
    (λ x. list_all is_no_dash (cond x [] ((48 + rest / 10 ^ n) ∷ places_of n (rest % 10 ^ n)))
    ≡ true) [
      | true ↦ refl
      | false ↦ ap (λ x. x && list_all is_no_dash (places_of n (rest % 10 ^ n)))
          (place_no_dash (rest / 10 ^ n)) ∙ places_no_dash n (rest % 10 ^ n)
    ]

fraction_no_dash : (rest : ℕ) → list_all is_no_dash (fraction_text rest) ≡ true
fraction_no_dash rest =
    elim (rest == 0) as (λ x. list_all is_no_dash (cond x [] (46 ∷ places_of 7 rest)) ≡ true) [
      | true ↦ refl
      | false ↦ places_no_dash 7 rest
    ]

fixed_signed : (z : ℤ) → unsigned_abs z / degree < 2 ^ 64 → IsSigned (fixed_text z)
fixed_signed (pos n) h =
    digits_signed (decimal (unsigned_abs (pos n) / degree))
    (fraction_text (unsigned_abs (pos n) % degree))
    (decimal_digits (unsigned_abs (pos n) / degree) h)
    (decimal_nonempty (unsigned_abs (pos n) / degree) h)
    (fraction_no_dash (unsigned_abs (pos n) % degree))
fixed_signed (negsuc n) h = (
  refl,
  no_dashes_more (decimal (unsigned_abs (negsuc n) / degree))
      (fraction_text (unsigned_abs (negsuc n) % degree))
      (decimal_digits (unsigned_abs (negsuc n) / degree) h)
      (fraction_no_dash (unsigned_abs (negsuc n) % degree)),
)

few_degrees : (m : ℕ) → m < 2 ^ 32 → m / degree < 2 ^ 64
few_degrees m h = omega arith

small : (z : ℤ) → SFits w32 z → unsigned_abs z < 2 ^ 32
small (pos n) f = let m = f.sfits in omega (arith, m)
small (negsuc n) f = let m = f.sfits in omega (arith, m)

some_number : (text : List ℕ) (z : ℤ) → fixed_of text ≡ Ok z → IsSome (number_of text)
some_number text z h = by_number (number_of text) h
  where
    by_number : (o : _) → if_number o ≡ Ok z → IsSome o
    by_number None e = absurd (cc)
    by_number (Some n) e = refl

pub fixed_printed : ((z : ℤ) → SFits w32 z → fixed_of (fixed_text z) ≡ Ok z) → (z : ℤ) → SFits w32 z
    → Printed (fixed_text z) (a_number (fixed_text z))
fixed_printed reads z f =
    number_piece (fixed_text z) (fixed_signed z (few_degrees (unsigned_abs z) (small z f)))
    (some_number (fixed_text z) z (reads z f))

-- a number of decimal digits
decimal_long : (n : ℕ) → n < 2 ^ 64 → length (decimal n) ≤ 20
decimal_long n h = length-decimal-le_wide 20 n (omega arith) (omega (arith, h)) (omega (arith, h))

number_some : (text : List ℕ) → nat_le (length text) 38 ≡ true
    → IsSome (unsigned_number (starts_with_minus text) (without_leading_sign text))
    → IsSome (number_of text)
number_some text e h =
    subst (λ x. IsSome
    (cond x (unsigned_number (starts_with_minus text) (without_leading_sign text)) None))
    (sym e) h

if_some : {N : Type 0} (x : Bool) (o : Option N) → x ≡ true → IsSome o → IsSome (cond x o None)
if_some true o e h = h
if_some false o e h = absurd (cc)

some_digits : (negative : Bool) (ds : List ℕ) → 0 < length ds
    → IsSome (mantissa_number negative ds (fraction_at []) (exponent_of (behind_fraction [])))
some_digits negative ds h =
    if_some (nat_le 1 (length ds + 0)) _ (le-leb 1 (length ds + 0) (omega (arith, h))) refl

digits_number : (negative : Bool) (ds : List ℕ) → list_all is_ascii_digit ds ≡ true → 0 < length ds
    → IsSome (unsigned_number negative ds)
digits_number negative ds e h =
    let whole : digits_at ds ≡ ds =
    ap digits_at (sym (append-nil ds)) ∙ take_run is_ascii_digit ds [] e tt in
    let rest : behind_digits ds ≡ [] =
    ap behind_digits (sym (append-nil ds)) ∙ drop_run is_ascii_digit ds [] e tt in
    subst (λ r. IsSome
    (mantissa_number negative (digits_at ds) (fraction_at r) (exponent_of (behind_fraction r))))
    (sym rest)
    (subst (λ w. IsSome
    (mantissa_number negative w (fraction_at []) (exponent_of (behind_fraction []))))
    (sym whole) (some_digits negative ds h))

no_minus : (d : ℕ) → is_ascii_digit d ≡ true → (d == 45) ≡ false
no_minus d e = grind (arith, nat_tests)

unsigned : (ds : List ℕ) → list_all is_ascii_digit ds ≡ true → without_leading_sign ds ≡ ds
unsigned [] e = refl
unsigned (d ∷ ds) e =
    let p = and_parts (is_ascii_digit d) (list_all is_ascii_digit ds) e in
    ap (λ x. cond x ds (without_leading_plus (d ∷ ds))) (no_minus d p.0)
    ∙ ap (λ x. drop (cond x 1 0) (d ∷ ds)) (no_plus d p.0)

positive_some : (n : ℕ) → n < 2 ^ 64 → IsSome (number_of (decimal n))
positive_some n h =
    let e = decimal_digits n h in
    number_some (decimal n) (le-leb (length (decimal n)) 38 (omega (arith, decimal_long n h)))
    (subst (λ t. IsSome (unsigned_number (starts_with_minus (decimal n)) t))
    (sym (unsigned (decimal n) e))
    (digits_number (starts_with_minus (decimal n)) (decimal n) e (decimal_nonempty n h)))

negative_some : (n : ℕ) → n < 2 ^ 64 → IsSome (number_of (45 ∷ decimal n))
negative_some n h =
    number_some (45 ∷ decimal n)
    (le-leb (length (45 ∷ decimal n)) 38 (omega (arith, decimal_long n h)))
    (digits_number true (decimal n) (decimal_digits n h) (decimal_nonempty n h))

below : (n : ℕ) → (is_below (2 ^ 63) (pos n)) ≡ true → n < 2 ^ 64
below n e = grind (arith, nat_tests)

below_minus : (n : ℕ) → (is_below (2 ^ 63) (negsuc n)) ≡ true → suc n < 2 ^ 64
below_minus n e = grind (arith, nat_tests)

pub whole_printed : (z : ℤ) → is_below (2 ^ 63) z ≡ true
    → Printed (signed_decimal z) (a_number (signed_decimal z))
whole_printed (pos n) e =
    let h = below n e in
    number_piece (decimal n)
    (subst IsSigned (append-nil (decimal n))
    (digits_signed (decimal n) [] (decimal_digits n h) (decimal_nonempty n h) refl))
    (positive_some n h)
whole_printed (negsuc n) e =
    let h = below_minus n e in
    number_piece (45 ∷ decimal (suc n))
    (refl, no_dashes (decimal (suc n)) (decimal_digits (suc n) h)) (negative_some (suc n) h)
