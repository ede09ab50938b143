-- Whole numbers as they are parsed.
use Rattle.std.proofs.Common.{◌≡◌, ◌<◌, ◌≤◌, ◌∷◌, ◌∙◌, [], ℕ, ℤ, pos, negsuc, List}
use Rattle.std.proofs.Common.{Some, None, Option, Ok, Err, Result, length, refl, sym, ap, subst}
use Rattle.std.proofs.Common.{true, inl, inr, arith}
use Rattle.std.specs.Prelude.{◌&&◌, ◌^◌, nat_le}
use Rattle.std.specs.List.{list_all}
use Rattle.std.specs.Char.{is_ascii_digit}
use Rattle.std.specs.Fmt.{signed_decimal}
use Rattle.std.specs.Int.RustNames.{FitsSigned}
use Rattle.std.specs.Str.{all_ascii_digits}
use Rattle.std.specs.Str.Parse.{ParsesSigned, IsNumeral, digits_value, signed_digits_value}
use Rattle.std.specs.Str.Parse.{without_leading_sign}
use Rattle.std.proofs.lemmas.Bool.{cases_Bool, and_parts, and_from, lt-ltb, ltb-true, leb-true}
use Rattle.std.proofs.lemmas.Bool.{le-leb}
use Rattle.std.proofs.lemmas.Fmt.{parse-signed_decimal}
use Rattle.std.proofs.lemmas.Str.Parse.{IsNumeralModel, numerals_by_value, tells_all_ascii_digits}
use lib.Signed.{mag}
use mir.Val.{to_z, of_z}
use Rattle.std.specs.Int.{w64}
use Rattle.std.proofs.lemmas.Int.{to_z-of_z}
use Rattle.gm_feature.specs.Value.{is_below}
use Rattle.gm_ecql.specs.Judging.{is_whole, whole_of}

pub own : IsNumeralModel (λ ds. all_ascii_digits ds ≡ true) (digits_value 10)
own = numerals_by_value _ tells_all_ascii_digits

pub same_digits : (ds : List ℕ) → all_ascii_digits ds ≡ list_all is_ascii_digit ds
same_digits [] = refl
same_digits (d ∷ ds) = ap (λ x. is_ascii_digit d && x) (same_digits ds)

fits : (z : ℤ) → is_below (2 ^ 63) z ≡ true → FitsSigned w64 z
fits (pos n) e = record { sfits = ltb-true n (2 ^ 63) e }
fits (negsuc n) e = record { sfits = ltb-true n (2 ^ 63) e }

within : (z : ℤ) → FitsSigned w64 z → is_below (2 ^ 63) z ≡ true
within (pos n) f = lt-ltb n (2 ^ 63) f.sfits
within (negsuc n) f = lt-ltb n (2 ^ 63) f.sfits

abbrev pub Numeral : List ℕ → Type 0
Numeral bs = IsNumeral 10 (without_leading_sign bs) × FitsSigned w64 (signed_digits_value 10 bs)

numeral : (bs : List ℕ)
    → (is_whole bs && is_below (2 ^ 63) (signed_digits_value 10 bs)) ≡ true → Numeral bs
numeral bs e =
    let both = and_parts _ _ e in
    let parts = and_parts (nat_le 1 (length (without_leading_sign bs)))
    (list_all is_ascii_digit (without_leading_sign bs)) both.0 in
    let long : 1 ≤ length (without_leading_sign bs) = leb-true _ _ parts.0 in (
      (omega (arith, long), own.to _ (same_digits (without_leading_sign bs) ∙ parts.1)),
      fits _ both.1,
    )

numeral-from : (bs : List ℕ) → Numeral bs
    → (is_whole bs && is_below (2 ^ 63) (signed_digits_value 10 bs)) ≡ true
numeral-from bs n =
    and_from _ _ (and_from _ _ (le-leb 1 (length (without_leading_sign bs)) (omega (arith, n.0.0)))
    (sym (same_digits (without_leading_sign bs)) ∙ own.from _ n.0.1)) (within _ n.1)

whole-some : (bs : List ℕ) → Numeral bs → whole_of bs ≡ Some (signed_digits_value 10 bs)
unfolding whole_of
whole-some bs n = rw (numeral-from bs n) refl

whole-none : (bs : List ℕ) → ¬ Numeral bs → whole_of bs ≡ None
unfolding whole_of
whole-none bs n = elim (cases_Bool (is_whole bs && is_below (2 ^ 63) (signed_digits_value 10 bs))) [
  | inl e ↦ absurd (n (numeral bs e))
  | inr e ↦ rw e refl
]

pub whole_ok : (bs : List ℕ) (z : ℤ) → Numeral bs × (z ≡ signed_digits_value 10 bs)
    → Some (to_z w64 (of_z w64 z)) ≡ whole_of bs
whole_ok bs z h =
    let f : FitsSigned w64 z = subst (λ (n : ℤ). FitsSigned w64 n) (sym h.1) h.0.1 in
    ap Some (to_z-of_z w64 z f ∙ h.1) ∙ sym (whole-some bs h.0)

pub whole_err : (bs : List ℕ) → ¬ Numeral bs → None ≡ whole_of bs
whole_err bs h = sym (whole-none bs h)

abbrev value_read : {E : Type 0} → Result ℤ E → Option ℤ
value_read (Ok z) = Some z
value_read (Err e) = None

parsed : {E : Type 0} (bs : List ℕ) (r : Result ℤ E) → ParsesSigned w64 10 bs r
    → value_read r ≡ whole_of bs
parsed bs (Ok z) h = ap Some h.1 ∙ sym (whole-some bs h.0)
parsed bs (Err e) h = sym (whole-none bs h)

parses : (bs : List ℕ) → (r : Result ℤ ℕ) × ParsesSigned w64 10 bs r
parses bs = elim (cases_Bool (is_whole bs && is_below (2 ^ 63) (signed_digits_value 10 bs))) [
  | inl e ↦ (Ok (signed_digits_value 10 bs), (numeral bs e, refl))
  | inr e ↦ (Err 0, λ n. cc (sym e ∙ numeral-from bs n))
]

small : (z : ℤ) → FitsSigned w64 z → mag z < 2 ^ 63
small z f = let m = f.sfits in omega (arith, m)

-- a printed number is read
pub reads_again : (z : ℤ) → is_below (2 ^ 63) z ≡ true → whole_of (signed_decimal z) ≡ Some z
reads_again z e =
    let f = fits z e in
    let p = parses (signed_decimal z) in
    sym (parsed (signed_decimal z) p.0 p.1)
    ∙ ap value_read (parse-signed_decimal w64 z (signed_decimal z) p.0 f (small z f) refl p.1)
