-- One to ten digits are parsed as their number.
use Rattle.std.proofs.Common.{◌≡◌, ◌<◌, ◌≤◌, ◌^◌, ℕ, true, List, length, Result, Ok, Err, Some}
use Rattle.std.proofs.Common.{None, arith, rules, inl, inr, sym, ap}
use Rattle.std.specs.Prelude.{◌&&◌, nat_le, IsUtf8, if◌then◌else◌}
use Rattle.std.specs.Char.{is_ascii_digit}
use Rattle.std.specs.List.{list_all}
use Rattle.std.specs.Str.Parse.{ParsesUnsigned, digits_value}
use Rattle.std.proofs.lemmas.Bool.{and_parts, leb-true, cases_Bool}
use Rattle.std.proofs.lemmas.Fmt.{IsAscii-from_digits}
use Rattle.std.proofs.lemmas.Str.{IsUtf8-from_ascii}
use Rattle.std.proofs.lemmas.Str.Parse.{IsNumeralModel, numerals_by_value, parse_gives}
use Rattle.std.proofs.lemmas.Str.Parse.{digits_value_short}
use Rattle.gm_script.specs.Ask.{is_target, target_number}

own : IsNumeralModel (λ ds. list_all is_ascii_digit ds ≡ true) (digits_value 10)
own = numerals_by_value _ (search rules)

pub parsed : {E : Type 0} (bs : List ℕ) (r : Result ℕ E) → ParsesUnsigned 64 10 bs r
    → is_target bs ≡ true
    → r ≡ Ok (digits_value 10 bs)
parsed bs r h e =
    let both = and_parts (nat_le 1 (length bs) && nat_le (length bs) 10)
    (list_all is_ascii_digit bs) e in
    let lens = and_parts (nat_le 1 (length bs)) (nat_le (length bs) 10) both.0 in
    let least : 1 ≤ length bs = leb-true _ _ lens.0 in
    let most : length bs ≤ 10 = leb-true _ _ lens.1 in
    let short : digits_value 10 bs < 10 ^ 10 = digits_value_short own bs 10 both.1 most in
    parse_gives own 64 bs r h both.1 (omega (arith, least)) (omega (arith, short))

pub is_text : (bs : List ℕ) → is_target bs ≡ true → IsUtf8 bs
is_text bs e =
    let both = and_parts (nat_le 1 (length bs) && nat_le (length bs) 10)
    (list_all is_ascii_digit bs) e in
    IsUtf8-from_ascii bs (IsAscii-from_digits bs (own.to bs both.1))

pub never : {E : Type 0} (bs : List ℕ) (e : E) → ParsesUnsigned 64 10 bs (Err e)
    → is_target bs ≡ true
    → None ≡ Some (digits_value 10 bs)
never bs e h t = let same = parsed bs (Err e) h t in absurd (cc)

pub no_text : (bs : List ℕ) → ¬ IsUtf8 bs → None ≡ target_number bs
no_text bs h = elim (cases_Bool (is_target bs)) [
  | inl e ↦ absurd (h (is_text bs e))
  | inr e ↦ sym (ap (λ b. if b then Some (digits_value 10 bs) else None) e)
]
