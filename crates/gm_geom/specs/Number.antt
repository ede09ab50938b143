-- Numbers as they are written, and the fixed numbers that they stand for: whole units of 10^-7.
use Rattle.std.specs.Prelude.{◌≡◌, ◌<◌, ◌≤◌, ◌⊎◌, ℕ, zero, suc, ◌+◌, ◌*◌, ◌/◌, ◌%◌, ◌^◌, ◌==◌, ◌&&◌}
use Rattle.std.specs.Prelude.{◌||◌, nat_lt, nat_le, Bool, true, false, if◌then◌else◌, ℤ, pos}
use Rattle.std.specs.Prelude.{negsuc, neg_ℤ, unsigned_abs, List, [], ◌∷◌, ◌++◌, length, take, drop}
use Rattle.std.specs.Prelude.{slice_index, Option, None, Some, Result, Ok, Err, option_map}
use Rattle.std.specs.List.{list_all, prefix_len}
use Rattle.std.specs.Char.{is_ascii_digit}
use Rattle.std.specs.Fmt.{decimal}
use Rattle.std.specs.Str.Parse.{digits_value, starts_with_minus, without_leading_sign}
use Rattle.gm_base.specs.Ascii.{plus_sign, minus_sign, decimal_point, capital_e, small_e}
use Rattle.gm_base.specs.Ascii.{digit_zero}
use Rattle.gm_geom.specs.declared.number.Exponent.{Exponent}
use Rattle.gm_geom.specs.declared.number.Number.{Number}
use Rattle.gm_geom.specs.declared.number.NumberFault.{NumberFault}
use Rattle.gm_geom.specs.declared.number.NumberFault.TheVariants.{Form, Big}

-- the most bytes of a number
abbrev pub number_limit : ℕ
number_limit = 38

-- the most digits of an exponent
abbrev pub exponent_digits : ℕ
exponent_digits = 3

-- a degree in units, 10^unit_places of them
abbrev pub degree : ℕ
degree = 10000000

abbrev pub unit_places : ℕ
unit_places = 7

abbrev pub AreDigits : List ℕ → Type 0
AreDigits bytes = list_all is_ascii_digit bytes ≡ true

-- Which texts spell which numbers, by the parts of a text laid end to end.

-- a minus before a negative number, a plus or nothing before another
abbrev pub SpellsSign : List ℕ → Bool → Type 0
SpellsSign sign true = sign ≡ minus_sign ∷ []
SpellsSign sign false = (sign ≡ []) ⊎ (sign ≡ plus_sign ∷ [])

-- a point and the digits behind it, or neither
abbrev pub SpellsFraction : List ℕ → List ℕ → Type 0
SpellsFraction text digits =
    ((text ≡ []) × (digits ≡ [])) ⊎ ((text ≡ decimal_point ∷ digits) × AreDigits digits)

-- `e` or `E`, a sign and one to three digits
pub record MarksExponent (text : List ℕ) (e : Exponent) : Type 0 where
  pub mark : ℕ
  pub sign : List ℕ
  pub digits : List ℕ
  pub marked : (mark ≡ small_e) ⊎ (mark ≡ capital_e)
  pub signed : SpellsSign sign e.negative
  pub are_digits : AreDigits digits
  pub some : 1 ≤ length digits
  pub few : length digits ≤ exponent_digits
  pub value : e.value ≡ digits_value 10 digits
  pub written : text ≡ mark ∷ (sign ++ digits)

abbrev pub no_exponent : Exponent
no_exponent = record { negative = false; value = 0 }

-- an exponent, or nothing, which is 0
abbrev pub SpellsExponent : List ℕ → Exponent → Type 0
SpellsExponent text e = ((text ≡ []) × (e ≡ no_exponent)) ⊎ MarksExponent text e

-- sign, whole part, fraction and exponent, with a digit in the whole part or in the fraction
pub record SpellsNumber (text : List ℕ) (n : Number) : Type 0 where
  pub sign : List ℕ
  pub whole : List ℕ
  pub fraction : List ℕ
  pub decimals : List ℕ
  pub exponent : List ℕ
  pub signed : SpellsSign sign n.negative
  pub are_digits : AreDigits whole
  pub behind_point : SpellsFraction fraction decimals
  pub some : 1 ≤ length whole + length decimals
  pub value : n.value ≡ digits_value 10 (whole ++ decimals)
  pub shifted : n.places ≡ length decimals
  pub raised : SpellsExponent exponent n.exponent
  pub short : length text ≤ number_limit
  pub written : text ≡ sign ++ (whole ++ (fraction ++ exponent))

-- The same as a function, which takes a text apart from the front.

-- the digits at the front, and what follows them
abbrev pub digits_at : List ℕ → List ℕ
digits_at bytes = take (prefix_len is_ascii_digit bytes) bytes

abbrev pub behind_digits : List ℕ → List ℕ
behind_digits bytes = drop (prefix_len is_ascii_digit bytes) bytes

-- the digits behind a point, where one stands first, and what follows them
abbrev pub has_point : List ℕ → Bool
has_point bytes = slice_index bytes 0 == decimal_point

abbrev pub fraction_at : List ℕ → List ℕ
fraction_at bytes = if has_point bytes then digits_at (drop 1 bytes) else []

abbrev pub behind_fraction : List ℕ → List ℕ
behind_fraction bytes = if has_point bytes then behind_digits (drop 1 bytes) else bytes

-- one to three digits
abbrev pub is_exponent : List ℕ → Bool
is_exponent digits =
    (nat_le 1 (length digits) && nat_le (length digits) exponent_digits)
    && list_all is_ascii_digit digits

-- an optional sign and one to three digits
abbrev pub marked_exponent : List ℕ → Option Exponent
marked_exponent bytes =
    if is_exponent (without_leading_sign bytes)
    then Some (record {
      negative = starts_with_minus bytes;
      value = digits_value 10 (without_leading_sign bytes);
    })
    else None

-- nothing, which is 0, or e or E and what follows it
abbrev pub exponent_of : List ℕ → Option Exponent
exponent_of [] = Some no_exponent
exponent_of (b ∷ bytes) = if b == small_e || b == capital_e then marked_exponent bytes else None

-- The digits make a whole number, and as many as the fraction has stand behind the point.
abbrev pub mantissa_number : Bool → List ℕ → List ℕ → Option Exponent → Option Number
mantissa_number negative whole fraction exponent =
    if nat_le 1 (length whole + length fraction)
    then option_map (λ e. record {
      negative = negative;
      value = digits_value 10 (whole ++ fraction);
      places = length fraction;
      exponent = e;
    }) exponent
    else None

abbrev pub unsigned_number : Bool → List ℕ → Option Number
unsigned_number negative bytes =
    mantissa_number negative (digits_at bytes) (fraction_at (behind_digits bytes))
    (exponent_of (behind_fraction (behind_digits bytes)))

-- an optional sign, digits with an optional point before, among or behind them, and an optional
-- exponent, in at most 38 bytes
abbrev pub number_of : List ℕ → Option Number
number_of text =
    if nat_le (length text) number_limit
    then unsigned_number (starts_with_minus text) (without_leading_sign text)
    else None

-- how large the parts of a number of 38 bytes can be
pub record Fits (n : Number) : Type 0 where
  pub value : n.value < 10 ^ number_limit
  pub places : n.places ≤ number_limit
  pub exponent : n.exponent.value < 10 ^ exponent_digits

-- the quotient, rounded to the nearest whole number, a half up
abbrev pub nearest : ℕ → ℕ → ℕ
nearest above below = (2 * above + below) / (2 * below)

-- n, or nothing where it is over 2^31
abbrev pub IsCapped : Option ℕ → ℕ → Type 0
IsCapped None n = 2 ^ 31 < n
IsCapped (Some m) n = (m ≡ n) × (n ≤ 2 ^ 31)

-- the powers of ten that a number is multiplied with, and divided by, for its value in units
abbrev pub up_of : Exponent → ℕ
up_of e = if e.negative then unit_places else unit_places + e.value

abbrev pub down_of : ℕ → Exponent → ℕ
down_of decimals e = if e.negative then decimals + e.value else decimals

abbrev pub magnitude_of : Number → ℕ
magnitude_of n = nearest (n.value * 10 ^ up_of n.exponent) (10 ^ down_of n.places n.exponent)

abbrev pub signed : Bool → ℕ → ℤ
signed negative n = if negative then neg_ℤ (pos n) else pos n

-- the number where it is an i32
abbrev pub in_range : ℤ → Result ℤ NumberFault
in_range (pos n) = if nat_lt n (2 ^ 31) then Ok (pos n) else Err Big
in_range (negsuc n) = if nat_lt n (2 ^ 31) then Ok (negsuc n) else Err Big

-- the fixed number: the value in units of 10^-7, rounded to the nearest, a half away from 0
abbrev pub rounded : Number → Result ℤ NumberFault
rounded n = in_range (signed n.negative (magnitude_of n))

abbrev pub if_number : Option Number → Result ℤ NumberFault
if_number None = Err Form
if_number (Some n) = rounded n

-- the text spells a number, and this is its fixed number
abbrev pub SpellsFixed : List ℕ → ℤ → Type 0
SpellsFixed text z = (n : Number) × SpellsNumber text n × (rounded n ≡ Ok z)

-- the fixed number that a text spells
abbrev pub fixed_of : List ℕ → Result ℤ NumberFault
fixed_of text = if_number (number_of text)

-- the digits of a rest below 10^places, until nothing is left
unfoldable pub places_of : ℕ → ℕ → List ℕ
places_of zero rest = []
places_of (suc n) rest =
    if rest == 0 then [] else (digit_zero + rest / 10 ^ n) ∷ places_of n (rest % 10 ^ n)

abbrev pub fraction_text : ℕ → List ℕ
fraction_text rest = if rest == 0 then [] else decimal_point ∷ places_of unit_places rest

abbrev pub minus_text : ℤ → List ℕ
minus_text (pos n) = []
minus_text (negsuc n) = minus_sign ∷ []

-- a minus where it is negative, the whole degrees, and a point and the places of what is left,
-- where anything is
abbrev pub fixed_text : ℤ → List ℕ
fixed_text z =
    minus_text z ++ (decimal (unsigned_abs z / degree) ++ fraction_text (unsigned_abs z % degree))

-- the bytes that numbers are written with: digits, signs, the point and the e of an exponent
abbrev pub is_number_byte : ℕ → Bool
is_number_byte b =
    is_ascii_digit b
    || (((b == plus_sign || b == minus_sign) || b == decimal_point)
    || (b == small_e || b == capital_e))
