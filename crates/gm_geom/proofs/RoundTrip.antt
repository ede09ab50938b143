-- Reading what was printed gives the number again.
use Rattle.std.proofs.Common.{◌≡◌, ℕ, zero, suc, ◌+◌, ◌-◌, ◌*◌, ◌/◌, ◌%◌, ◌^◌, ◌<◌, ◌≤◌, Bool, true}
use Rattle.std.proofs.Common.{false, ◌&&◌, ◌||◌, ◌==◌, cond, le-leb, lt-ltb, ℤ, pos, negsuc, List}
use Rattle.std.proofs.Common.{[], ◌∷◌, ◌++◌, length, take, drop, Some, None, Ok, Err, refl, sym, ap}
use Rattle.std.proofs.Common.{◌∙◌, subst, arith, append-nil, length-append, lit<}
use Rattle.std.specs.List.{list_all, prefix_len}
use Rattle.std.specs.Char.{is_ascii_digit, digit_value}
use Rattle.std.specs.Fmt.{decimal}
use Rattle.std.specs.Str.Parse.{digits_value, digits_value_after, AllDigits, starts_with_minus}
use Rattle.std.specs.Str.Parse.{without_leading_sign}
use Rattle.std.proofs.lemmas.Fmt.{decimal_is_IsNumeral, length-decimal-le}
use Rattle.std.proofs.lemmas.Nat.{mod_below, div-add-mod'}
use Rattle.std.proofs.lemmas.Bool.Decides.{nat_tests}
use Rattle.std.proofs.Math.Nat.{pow-succ'}
use Rattle.gm_base.proofs.Numbers.{digit_of}
use Rattle.gm_base.proofs.Lists.{take_front, drop_front}
use Rattle.gm_geom.specs.declared.number.Number.{Number}
use Rattle.gm_geom.specs.declared.number.NumberFault.TheVariants.{Big}
use mir.Syntax.{w32}
use mir.Val.{SFits}
use Rattle.gm_geom.specs.Number.{AreDigits, digits_at, behind_digits, fraction_at, behind_fraction}
use Rattle.gm_geom.specs.Number.{exponent_of, mantissa_number, unsigned_number, nearest}
use Rattle.gm_geom.specs.Number.{magnitude_of, signed, in_range, rounded, fixed_of, if_number}
use Rattle.gm_geom.specs.Number.{places_of, fraction_text, fixed_text, is_number_byte}
use Rattle.gm_geom.proofs.Numbers.{nearest_up, digits_value-append, digit_value_is, digit_low}
use Rattle.gm_geom.proofs.Numbers.{pow_pos}
use Rattle.std.proofs.lemmas.List.Folds.{list_all-append}
use Rattle.std.proofs.lemmas.Bool.{and_parts}
use Rattle.gm_geom.proofs.Places.{places_next, places_none, next_digit, some_test}

-- no digit stands first
abbrev pub Stops : List ℕ → Type 0
Stops [] = Unit {0}
Stops (b ∷ bytes) = is_ascii_digit b ≡ false

run : (ds rest : List ℕ) → AreDigits ds → Stops rest
    → prefix_len is_ascii_digit (ds ++ rest) ≡ length ds
run [] [] all stops = refl
run [] (b ∷ rest) all stops = ap (λ t. cond t (1 + prefix_len is_ascii_digit rest) 0) stops
run (d ∷ ds) rest all stops =
    let each : (is_ascii_digit d ≡ true) × (list_all is_ascii_digit ds ≡ true) =
    and_parts (is_ascii_digit d) (list_all is_ascii_digit ds) all in
    ap (λ t. cond t (1 + prefix_len is_ascii_digit (ds ++ rest)) 0) each.0
    ∙ ap (λ n. 1 + n) (run ds rest each.1 stops) ∙ omega arith

pub digits_front : (ds rest : List ℕ) → AreDigits ds → Stops rest → digits_at (ds ++ rest) ≡ ds
digits_front ds rest all stops =
    ap (λ n. take n (ds ++ rest)) (run ds rest all stops) ∙ take_front ds rest

pub behind_front : (ds rest : List ℕ) → AreDigits ds → Stops rest
    → behind_digits (ds ++ rest) ≡ rest
behind_front ds rest all stops =
    ap (λ n. drop n (ds ++ rest)) (run ds rest all stops) ∙ drop_front ds rest

digit_from_value : (c : ℕ) → digit_value c < 10 → is_ascii_digit c ≡ true
digit_from_value c small = grind (arith, nat_tests)

are_digits : (ds : List ℕ) → AllDigits 10 ds → AreDigits ds
are_digits [] all = refl
are_digits (d ∷ ds) all =
    ap (λ t. t && list_all is_ascii_digit ds) (digit_from_value d all.0) ∙ are_digits ds all.1

glyph_value : (d : ℕ) → d < 10 → digit_value (48 + d) ≡ d
glyph_value d small = digit_value_is (48 + d) (digit_of d small) ∙ omega arith

-- a rest below 10^n is what its places say
abbrev Says : ℕ → ℕ → List ℕ → Type 0
Says n r ds = (AreDigits ds) × (length ds ≤ n)
    × ((w : ℕ) → digits_value_after 10 w ds * 10 ^ (n - length ds) ≡ w * 10 ^ n + r)

places_say : (n r : ℕ) → r < 10 ^ n → Says n r (places_of n r)
places_say n zero small =
    let P : List ℕ → Type 0 = λ ds. Says n zero ds in
    subst P (sym (places_none n))
    (refl, omega arith, λ w. rw (whole n) (sym (plus-zero (w * 10 ^ n))))
  where
    whole : (n : ℕ) → n - 0 ≡ n
    whole n = omega arith

    plus-zero : (m : ℕ) → m + 0 ≡ m
    plus-zero m = omega arith
places_say zero (suc r) small = absurd (omega arith)
places_say (suc n) (suc r) small =
    let d : ℕ = suc r / 10 ^ n in
    let q : suc n - 1 ≡ n = omega arith in
    let P : List ℕ → Type 0 = λ ds. Says (suc n) (suc r) ds in
    let rest : Says n (suc r % 10 ^ n) (places_of n (suc r % 10 ^ n)) =
    places_say n (suc r % 10 ^ n) (mod_below (suc r) (10 ^ n) (pow_pos n)) in
    let digit : suc r / 10 ^ n < 10 =
    subst (λ k. suc r / 10 ^ k < 10) q (next_digit (suc n) (suc r) (omega arith) small) in
    let e : places_of (suc n) (suc r) ≡ (48 + suc r / 10 ^ n) ∷ places_of n (suc r % 10 ^ n) =
    places_next (suc n) (suc r) (omega arith) (omega arith)
    ∙ ap (λ k. (48 + suc r / 10 ^ k) ∷ places_of k (suc r % 10 ^ k)) q in
    subst P (sym e) (
      ap (λ t. t && list_all is_ascii_digit (places_of n (suc r % 10 ^ n)))
          (digit_of (suc r / 10 ^ n) digit) ∙ rest.0,
      omega (arith, rest.1),
      λ w. more w (suc r) n (suc r / 10 ^ n) (places_of n (suc r % 10 ^ n))
          (div-add-mod' (suc r) (10 ^ n)) digit rest.1 (rest.2 (w * 10 + suc r / 10 ^ n)),
    )
  where
    more : (w r n d : ℕ) (ds : List ℕ) → d * 10 ^ n + r % 10 ^ n ≡ r → d < 10 → length ds ≤ n
        → digits_value_after 10 (w * 10 + d) ds * 10 ^ (n - length ds)
        ≡ (w * 10 + d) * 10 ^ n + r % 10 ^ n
        → digits_value_after 10 (w * 10 + digit_value (48 + d)) ds
        * 10 ^ (suc n - length ((48 + d) ∷ ds)) ≡ w * 10 ^ suc n + r
    more w r n d ds split small short e =
        let k : suc n - length ((48 + d) ∷ ds) ≡ n - length ds = omega arith in
        rw (glyph_value d small, k, e, pow-succ' 10 n) (sums w d (10 ^ n) (r % 10 ^ n) r split)
      where
        sums : (w d p m r : ℕ) → d * p + m ≡ r → (w * 10 + d) * p + m ≡ w * (10 * p) + r
        sums w d p m r split = omega arith

-- digits and what stands behind them
reads_parts : (negative : Bool) (ds fs rest : List ℕ) → AreDigits ds → 0 < length ds → Stops rest
    → fraction_at rest ≡ fs → behind_fraction rest ≡ []
    → unsigned_number negative (ds ++ rest)
    ≡ Some (record {
      negative = negative;
      value = digits_value 10 (ds ++ fs);
      places = length fs;
      exponent = record { negative = false; value = 0 };
    })
reads_parts negative ds fs rest all some stops ef eb =
    ap (λ x. mantissa_number negative x (fraction_at (behind_digits (ds ++ rest)))
    (exponent_of (behind_fraction (behind_digits (ds ++ rest)))))
    (digits_front ds rest all stops)
    ∙ ap (λ x. mantissa_number negative ds (fraction_at x) (exponent_of (behind_fraction x)))
    (behind_front ds rest all stops)
    ∙ ap (λ x. mantissa_number negative ds x (exponent_of (behind_fraction rest))) ef
    ∙ ap (λ x. mantissa_number negative ds fs (exponent_of x)) eb
    ∙ ap (λ t. cond t
    (Some (record {
      negative = negative;
      value = digits_value 10 (ds ++ fs);
      places = length fs;
      exponent = record { negative = false; value = 0 };
    })) None)
    (le-leb 1 (length ds + length fs) (omega arith))

-- the same with the text of a rest behind them
reads_rest : (negative : Bool) (ds : List ℕ) (r : ℕ) → AreDigits ds → 0 < length ds → r < 10 ^ 7
    → unsigned_number negative (ds ++ fraction_text r)
    ≡ Some (record {
      negative = negative;
      value = digits_value 10 (ds ++ places_of 7 r);
      places = length (places_of 7 r);
      exponent = record { negative = false; value = 0 };
    })
reads_rest negative ds zero all some small =
    reads_parts negative ds (places_of 7 zero) [] all some tt (sym (places_none 7)) refl
reads_rest negative ds (suc r) all some small =
    let text : fraction_text (suc r) ≡ 46 ∷ places_of 7 (suc r) =
    ap (λ t. cond t [] (46 ∷ places_of 7 (suc r))) (some_test (suc r) (omega arith)) in
    let digits : AreDigits (places_of 7 (suc r)) = (places_say 7 (suc r) small).0 in
    ap (λ t. unsigned_number negative (ds ++ t)) text
    ∙ reads_parts negative ds (places_of 7 (suc r)) (46 ∷ places_of 7 (suc r)) all some refl
    (ap (λ t. digits_at t) (sym (append-nil (places_of 7 (suc r))))
    ∙ digits_front (places_of 7 (suc r)) [] digits tt)
    (ap (λ t. behind_digits t) (sym (append-nil (places_of 7 (suc r))))
    ∙ behind_front (places_of 7 (suc r)) [] digits tt)

-- the magnitude of what is read
magnitude_again : (negative : Bool) (w r : ℕ) (ds : List ℕ) → digits_value 10 ds ≡ w → r < 10 ^ 7
    → magnitude_of
    (record {
      negative = negative;
      value = digits_value 10 (ds ++ places_of 7 r);
      places = length (places_of 7 r);
      exponent = record { negative = false; value = 0 };
    })
    ≡ w * 10 ^ 7 + r
magnitude_again negative w r ds value small =
    let says : Says 7 r (places_of 7 r) = places_say 7 r small in
    whole (digits_value 10 (ds ++ places_of 7 r)) (length (places_of 7 r)) says.1
    ∙ ap (λ v. v * 10 ^ (7 - length (places_of 7 r)))
    (digits_value-append 0 ds (places_of 7 r)
    ∙ ap (λ v. digits_value_after 10 v (places_of 7 r)) value)
    ∙ says.2 w
  where
    whole : (v k : ℕ) → k ≤ 7 → nearest (v * 10 ^ 7) (10 ^ k) ≡ v * 10 ^ (7 - k)
    whole v k short =
        let e : 7 ≡ k + (7 - k) = omega arith in
        ap (λ j. nearest (v * 10 ^ j) (10 ^ k)) e ∙ nearest_up v k (7 - k)

-- digits have no sign
pub digit_is_no_sign : (b n : ℕ) → is_ascii_digit b ≡ true → n < 48 → (b == n) ≡ false
digit_is_no_sign b n digit small = let low : 48 ≤ b = digit_low b digit in grind (arith, nat_tests)

plain_sign : (ds rest : List ℕ) → AreDigits ds → 0 < length ds
    → (starts_with_minus (ds ++ rest) ≡ false) × (without_leading_sign (ds ++ rest) ≡ ds ++ rest)
plain_sign [] rest all some = absurd (omega arith)
plain_sign (d ∷ ds) rest all some =
    let digit : is_ascii_digit d ≡ true =
    (and_parts (is_ascii_digit d) (list_all is_ascii_digit ds) all).0 in
    let minus : (d == 45) ≡ false = digit_is_no_sign d 45 digit (lit< tt) in
    let plus : (d == 43) ≡ false = digit_is_no_sign d 43 digit (lit< tt) in
    (minus, rw (minus, plus) refl)

-- the number of a whole part and a rest
reads_unsigned : (negative : Bool) (m : ℕ) → m < 2 ^ 32
    → (n : Number)
    × (unsigned_number negative (decimal (m / 10000000) ++ fraction_text (m % 10000000)) ≡ Some n)
    × (rounded n ≡ in_range (signed negative m))
reads_unsigned negative m small =
    let r_small : m % 10000000 < 10 ^ 7 = mod_below m 10000000 (lit< tt) in
    let w_small : m / 10000000 < 2 ^ 64 = omega arith in
    let numeral = decimal_is_IsNumeral (m / 10000000) w_small in
    let whole : m / 10000000 * 10 ^ 7 + m % 10000000 ≡ m = div-add-mod' m 10000000 in (
      _,
      reads_rest negative (decimal (m / 10000000)) (m % 10000000) (are_digits _ numeral.0.1)
          numeral.0.0 r_small,
      ap (λ k. in_range (signed negative k))
          (magnitude_again negative (m / 10000000) (m % 10000000) (decimal (m / 10000000)) numeral.1
          r_small ∙ whole),
    )

-- the printed text is short
fraction_short : (r : ℕ) → r < 10 ^ 7 → length (fraction_text r) ≤ 8
fraction_short zero small = omega arith
fraction_short (suc r) small =
    let text : fraction_text (suc r) ≡ 46 ∷ places_of 7 (suc r) =
    ap (λ t. cond t [] (46 ∷ places_of 7 (suc r))) (some_test (suc r) (omega arith)) in
    omega (arith, ap length text, (places_say 7 (suc r) small).1)

text_short : (m : ℕ) → m < 2 ^ 32
    → length (decimal (m / 10000000) ++ fraction_text (m % 10000000)) ≤ 11
text_short m small =
    omega (
      arith,
      length-append (decimal (m / 10000000)) (fraction_text (m % 10000000)),
      length-decimal-le 3 (m / 10000000) (lit< tt) (omega arith) (omega arith),
      fraction_short (m % 10000000) (mod_below m 10000000 (lit< tt)),
    )

-- a magnitude with its sign
kept_pos : (m : ℕ) → m < 2 ^ 31 → in_range (pos m) ≡ Ok (pos m)
kept_pos m small = ap (λ t. cond t (Ok (pos m)) (Err Big)) (lt-ltb m (2 ^ 31) small)

kept_neg : (m : ℕ) → m < 2 ^ 31 → in_range (negsuc m) ≡ Ok (negsuc m)
kept_neg m small = ap (λ t. cond t (Ok (negsuc m)) (Err Big)) (lt-ltb m (2 ^ 31) small)

read_of : (text unsigned : List ℕ) (negative : Bool) (n : Number) → length text ≤ 38
    → starts_with_minus text ≡ negative → without_leading_sign text ≡ unsigned
    → unsigned_number negative unsigned ≡ Some n → fixed_of text ≡ rounded n
read_of text unsigned negative n short minus rest e =
    ap (λ t. if_number
    (cond t (unsigned_number (starts_with_minus text) (without_leading_sign text)) None))
    (le-leb (length text) 38 short)
    ∙ ap (λ b. if_number (unsigned_number b (without_leading_sign text))) minus
    ∙ ap (λ u. if_number (unsigned_number negative u)) rest
    ∙ ap if_number e

-- reading what was printed gives the number again
pub reads_again : (z : ℤ) → SFits w32 z → fixed_of (fixed_text z) ≡ Ok z
reads_again (pos m) fits =
    let small : m < 2 ^ 31 = omega (arith, fits.sfits) in
    let read = reads_unsigned false m (omega arith) in
    let numeral = decimal_is_IsNumeral (m / 10000000) (omega arith) in
    let sign = plain_sign (decimal (m / 10000000)) (fraction_text (m % 10000000))
    (are_digits _ numeral.0.1) numeral.0.0 in
    read_of (decimal (m / 10000000) ++ fraction_text (m % 10000000))
    (decimal (m / 10000000) ++ fraction_text (m % 10000000)) false read.0
    (omega (arith, text_short m (omega arith))) sign.0 sign.1 read.1 ∙ read.2
    ∙ kept_pos m small
reads_again (negsuc m) fits =
    let small : m < 2 ^ 31 = omega (arith, fits.sfits) in
    let read = reads_unsigned true (suc m) (omega arith) in
    read_of (45 ∷ (decimal (suc m / 10000000) ++ fraction_text (suc m % 10000000)))
    (decimal (suc m / 10000000) ++ fraction_text (suc m % 10000000)) true read.0
    (omega (arith, text_short (suc m) (omega arith))) refl refl read.1 ∙ read.2
    ∙ kept_neg m small

-- the printed text has only bytes of numbers
digit_bytes : (ds : List ℕ) → AreDigits ds → list_all is_number_byte ds ≡ true
digit_bytes [] all = refl
digit_bytes (d ∷ ds) all =
    let each : (is_ascii_digit d ≡ true) × (list_all is_ascii_digit ds ≡ true) =
    and_parts (is_ascii_digit d) (list_all is_ascii_digit ds) all in
    ap (λ t. (t || (((d == 43 || d == 45) || d == 46) || (d == 101 || d == 69)))
    && list_all is_number_byte ds) each.0 ∙ digit_bytes ds each.1

fraction_bytes : (r : ℕ) → r < 10 ^ 7 → list_all is_number_byte (fraction_text r) ≡ true
fraction_bytes zero small = refl
fraction_bytes (suc r) small =
    let text : fraction_text (suc r) ≡ 46 ∷ places_of 7 (suc r) =
    ap (λ t. cond t [] (46 ∷ places_of 7 (suc r))) (some_test (suc r) (omega arith)) in
    ap (λ t. list_all is_number_byte t) text
    ∙ digit_bytes (places_of 7 (suc r)) (places_say 7 (suc r) small).0

unsigned_bytes : (m : ℕ) → m < 2 ^ 32
    → list_all is_number_byte (decimal (m / 10000000) ++ fraction_text (m % 10000000)) ≡ true
unsigned_bytes m small =
    list_all-append is_number_byte (decimal (m / 10000000)) (fraction_text (m % 10000000))
    ∙ ap (λ t. t && list_all is_number_byte (fraction_text (m % 10000000)))
    (digit_bytes (decimal (m / 10000000))
    (are_digits (decimal (m / 10000000))
    (decimal_is_IsNumeral (m / 10000000) (omega arith)).0.1))
    ∙ fraction_bytes (m % 10000000) (mod_below m 10000000 (lit< tt))

pub printed_bytes : (z : ℤ) → SFits w32 z → list_all is_number_byte (fixed_text z) ≡ true
printed_bytes (pos m) fits = unsigned_bytes m (omega (arith, fits.sfits))
printed_bytes (negsuc m) fits = unsigned_bytes (suc m) (omega (arith, fits.sfits))
