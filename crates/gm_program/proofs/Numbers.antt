-- What parse says of the numbers that are read.
use Rattle.std.proofs.Common.{◌≡◌, ℕ, ◌^◌, ◌<◌, ◌&&◌, not, nat_le, true, cond}
use Rattle.std.proofs.Common.{List, [], ◌∷◌, length, drop, Some, None, refl, ap, subst, arith}
use Rattle.std.specs.List.{list_all}
use Rattle.std.specs.Char.{is_ascii_digit, digit_value}
use Rattle.std.specs.Str.Parse.{AllDigits, IsNumeral, digits_value, without_leading_plus}
use Rattle.std.proofs.lemmas.Bool.Decides.{nat_tests}
use Rattle.clap.specs.Walk.{is_empty}
use Rattle.gm_base.proofs.Numbers.{no_plus}
use Rattle.std.proofs.lemmas.Bool.{and_parts}
use Rattle.gm_program.specs.Words.{is_padded_text, is_plain_number, number_between}

low_digit : (c : ℕ) → is_ascii_digit c ≡ true → digit_value c < 10
low_digit c digit = grind (arith, nat_tests)

all_digits : (bytes : List ℕ) → list_all is_ascii_digit bytes ≡ true → AllDigits 10 bytes
all_digits [] all = tt
all_digits (b ∷ bytes) all =
    let each : (is_ascii_digit b ≡ true) × (list_all is_ascii_digit bytes ≡ true) =
    and_parts (is_ascii_digit b) (list_all is_ascii_digit bytes) all in
    (low_digit b each.0, all_digits bytes each.1)

-- digits have no plus before them
bare : (bytes : List ℕ) → list_all is_ascii_digit bytes ≡ true → without_leading_plus bytes ≡ bytes
bare [] all = refl
bare (b ∷ bytes) all =
    let each : (is_ascii_digit b ≡ true) × (list_all is_ascii_digit bytes ≡ true) =
    and_parts (is_ascii_digit b) (list_all is_ascii_digit bytes) all in
    ap (λ t. drop (cond t 1 0) (b ∷ bytes)) (no_plus b each.0)

some : (bytes : List ℕ) → not (is_empty bytes) ≡ true → 0 < length bytes
some [] e = absurd (cc)
some (b ∷ bytes) e = omega arith

-- what parse refuses is above each number of 64 bits
pub refused : (least most : ℕ) (bytes : List ℕ) → most < 2 ^ 64
    → ¬ (IsNumeral 10 (without_leading_plus bytes)
    × (digits_value 10 (without_leading_plus bytes) < 2 ^ 64))
    → is_plain_number bytes ≡ true → None ≡ number_between least most bytes
refused least most bytes small refusal plain =
    let parts : (not (is_empty bytes) ≡ true)
    × ((list_all is_ascii_digit bytes && not (is_padded_text bytes)) ≡ true) =
    and_parts (not (is_empty bytes)) _ plain in
    let digits : (list_all is_ascii_digit bytes ≡ true) × (not (is_padded_text bytes) ≡ true) =
    and_parts (list_all is_ascii_digit bytes) _ parts.1 in
    let no_bare : ¬ (IsNumeral 10 bytes × (digits_value 10 bytes < 2 ^ 64)) =
    subst (λ ds. ¬ (IsNumeral 10 ds × (digits_value 10 ds < 2 ^ 64)))
    (bare bytes digits.0) refusal in
    let high : ¬ (digits_value 10 bytes < 2 ^ 64) =
    λ below. no_bare ((some bytes parts.0, all_digits bytes digits.0), below) in
    rw (plain) (above (digits_value 10 bytes) (digits_value 10 bytes) high)
  where
    above : (n v : ℕ) → ¬ (n < 2 ^ 64) → None ≡ cond (nat_le least n && nat_le n most) (Some v) None
    above n v high = grind (arith, nat_tests)
