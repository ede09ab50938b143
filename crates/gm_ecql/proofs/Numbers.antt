-- A number goes on over all of its bytes, and ends behind none of its e's.
use Rattle.std.proofs.Common.{◌≡◌, ℕ, zero, suc, ◌+◌, ◌<◌, ◌≤◌, Bool, true, false, ◌&&◌, ◌||◌, ◌==◌}
use Rattle.std.proofs.Common.{nat_le, cond, List, [], ◌∷◌, ◌++◌, length, drop, slice_index, Option}
use Rattle.std.proofs.Common.{Some, None, option_map, refl, sym, ap, ◌∙◌, subst, arith, eqb-true}
use Rattle.std.specs.Prelude.{IsSome, slice_index}
use Rattle.std.specs.List.{list_all, prefix_len}
use Rattle.std.specs.Char.{is_ascii_digit}
use Rattle.std.specs.Str.Parse.{without_leading_sign, without_leading_plus, starts_with_minus}
use Rattle.std.proofs.lemmas.Bool.Decides.{nat_tests}
use Rattle.std.proofs.lemmas.Bool.{and_parts}
use Rattle.gm_geom.specs.Number.{number_of, digits_at, behind_digits, fraction_at, behind_fraction}
use Rattle.gm_geom.specs.Number.{is_exponent, marked_exponent, exponent_of, unsigned_number}
use Rattle.gm_ecql.specs.Token.{Stops, is_sign, is_number_tail}
use Rattle.gm_ecql.specs.Scanner.{is_e, goes_on, number_end}
use Rattle.gm_ecql.proofs.Sound.{end_from}

-- each byte goes on with the number, and a sign could not follow
abbrev pub Joins : Bool → List ℕ → Type 0
Joins sign [] = sign ≡ false
Joins sign (b ∷ bs) = (goes_on sign b ≡ true) × Joins (is_e b) bs

goes_on_ascii : (sign : Bool) (b : ℕ) → goes_on sign b ≡ true → b < 128
goes_on_ascii true b e = grind (arith, nat_tests)
goes_on_ascii false b e = grind (arith, nat_tests)

pub joined_ascii : (bs : List ℕ) (sign : Bool) → Joins sign bs → (i : ℕ) → slice_index bs i < 128
joined_ascii [] sign j i = omega arith
joined_ascii (b ∷ bs) sign j zero = goes_on_ascii sign b j.0
joined_ascii (b ∷ bs) sign j (suc i) = joined_ascii bs (is_e b) j.1 i

no_tail : (b : ℕ) → is_number_tail b ≡ false → goes_on false b ≡ false
no_tail b e = rw e refl

pub joined_end : (bs rest : List ℕ) (sign : Bool) → Joins sign bs → Stops is_number_tail rest
    → number_end 0 sign (bs ++ rest) ≡ length bs
unfolding number_end
joined_end [] [] sign j s = refl
joined_end [] (b ∷ rest) sign j s =
    ap (λ x. cond (goes_on x b) (number_end (0 + 1) (is_e b) rest) 0) j
    ∙ ap (λ x. cond x (number_end (0 + 1) (is_e b) rest) 0) (no_tail b s)
joined_end (b ∷ bs) rest sign j s =
    ap (λ x. cond x (number_end (0 + 1) (is_e b) (bs ++ rest)) 0) j.0
    ∙ end_from (bs ++ rest) (0 + 1) (is_e b)
    ∙ ap (λ n. 0 + 1 + n) (joined_end bs rest (is_e b) j.1 s) ∙ omega arith

digit_goes_on : (sign : Bool) (b : ℕ) → is_ascii_digit b ≡ true → goes_on sign b ≡ true
digit_goes_on sign b e = grind (arith, nat_tests)

digit_no_e : (b : ℕ) → is_ascii_digit b ≡ true → is_e b ≡ false
digit_no_e b e = grind (arith, nat_tests)

-- digits in front of what joins
digits_join : (bytes : List ℕ) → Joins false (behind_digits bytes) → Joins false bytes
digits_join [] = λ j. j
digits_join (b ∷ bs) =
    elim (is_ascii_digit b) as
    (λ x. is_ascii_digit b ≡ x
    → Joins false (drop (cond x (1 + prefix_len is_ascii_digit bs) 0) (b ∷ bs))
    → Joins false (b ∷ bs)) [
      | true ↦ λ e j. (
        digit_goes_on false b e,
        subst (λ t. Joins t bs) (sym (digit_no_e b e))
            (digits_join bs
            (subst (λ n. Joins false (drop n (b ∷ bs)))
            (more (prefix_len is_ascii_digit bs)) j)),
      )
      | false ↦ λ e j. j
    ] refl
  where
    more : (n : ℕ) → 1 + n ≡ suc n
    more n = omega arith

point_joins : (bytes : List ℕ) → Joins false (behind_fraction bytes) → Joins false bytes
point_joins [] = λ j. refl
point_joins (b ∷ bs) =
    elim (b == 46) as
    (λ x. (b == 46) ≡ x → Joins false (cond x (behind_digits (drop 1 (b ∷ bs))) (b ∷ bs))
    → Joins false (b ∷ bs)) [
      | true ↦ λ e j. subst (λ z. Joins false (z ∷ bs)) (sym (eqb-true b 46 e))
          (refl, digits_join bs j)
      | false ↦ λ e j. j
    ] refl

-- where nothing is wanted of the first byte, a sign may also stand
free_sign : (bytes : List ℕ) → 0 < length bytes → Joins false bytes → Joins true bytes
free_sign [] some j = absurd (omega arith)
free_sign (b ∷ bs) some j = (also (is_number_tail b) (is_sign b) j.0, j.1)
  where
    also : (x y : Bool) → (x || (false && y)) ≡ true → (x || (true && y)) ≡ true
    also true y e = refl
    also false y e = absurd (cc)

all_digits : (bytes : List ℕ) → list_all is_ascii_digit bytes ≡ true → Joins false bytes
all_digits [] all = refl
all_digits (b ∷ bs) all =
    let each = and_parts (is_ascii_digit b) (list_all is_ascii_digit bs) all in (
      digit_goes_on false b each.0,
      subst (λ t. Joins t bs) (sym (digit_no_e b each.0)) (all_digits bs each.1),
    )

-- behind the sign
unsigned_joins : (bytes : List ℕ) → 0 < length (without_leading_sign bytes)
    → Joins false (without_leading_sign bytes) → Joins true bytes
unsigned_joins [] = λ some j. absurd (omega (arith, some))
unsigned_joins (b ∷ bs) =
    elim (b == 45) as
    (λ x. (b == 45) ≡ x → 0 < length (cond x bs (without_leading_plus (b ∷ bs)))
    → Joins false (cond x bs (without_leading_plus (b ∷ bs))) → Joins true (b ∷ bs)) [
      | true ↦ λ e some j. subst (λ z. Joins true (z ∷ bs)) (sym (eqb-true b 45 e)) (refl, j)
      | false ↦ λ e. elim (b == 43) as
          (λ x. (b == 43) ≡ x → 0 < length (drop (cond x 1 0) (b ∷ bs))
          → Joins false (drop (cond x 1 0) (b ∷ bs)) → Joins true (b ∷ bs)) [
            | true ↦ λ e some j. subst (λ z. Joins true (z ∷ bs)) (sym (eqb-true b 43 e)) (refl, j)
            | false ↦ λ e some j. free_sign (b ∷ bs) some j
          ] refl
    ] refl

no_number : (N P : Type 0) → IsSome {T = N} None → P
no_number N P h = absurd (cc)

some_then : {N : Type 0} (b : Bool) (x : Option N) → IsSome (cond b x None) → (b ≡ true) × IsSome x
some_then true x h = (refl, h)
some_then {N = N} false x h = no_number N _ h

at_least : (n : ℕ) → nat_le 1 n ≡ true → 0 < n
at_least n e = grind (arith, nat_tests)

marked_joins : (bytes : List ℕ) → IsSome (marked_exponent bytes) → Joins true bytes
marked_joins bytes h =
    let d = without_leading_sign bytes in
    let is = (some_then (is_exponent d) _ h).0 in
    let each = and_parts (nat_le 1 (length d) && nat_le (length d) 3)
    (list_all is_ascii_digit d) is in
    unsigned_joins bytes
    (at_least (length d) (and_parts (nat_le 1 (length d)) (nat_le (length d) 3) each.0).0)
    (all_digits d each.1)

exponent_joins : (bytes : List ℕ) → IsSome (exponent_of bytes) → Joins false bytes
exponent_joins [] h = refl
exponent_joins (b ∷ bs) h =
    let e = some_then (is_e b) (marked_exponent bs) h in
    (e_goes_on b e.0, subst (λ t. Joins t bs) (sym e.0) (marked_joins bs e.1))
  where
    e_goes_on : (b : ℕ) → is_e b ≡ true → goes_on false b ≡ true
    e_goes_on b e = grind (arith, nat_tests)

mapped : {A B : Type 0} (f : A → B) (o : Option A) → IsSome (option_map f o) → IsSome o
mapped {B = B} f None h = no_number B _ h
mapped f (Some x) h = refl

-- the mantissa has a digit, so there is a byte
some_bytes : (bytes : List ℕ)
    → 1 ≤ length (digits_at bytes) + length (fraction_at (behind_digits bytes)) → 0 < length bytes
some_bytes [] h = absurd (none h)
  where
    none : 1 ≤ length (digits_at []) + length (fraction_at (behind_digits [])) → ⊥
    none h = omega (arith, h)
some_bytes (b ∷ bs) h = omega arith

mantissa_joins : (negative : Bool) (bytes : List ℕ) → IsSome (unsigned_number negative bytes)
    → (0 < length bytes) × Joins false bytes
mantissa_joins negative bytes h =
    let whole = digits_at bytes in
    let fraction = fraction_at (behind_digits bytes) in
    let p = some_then (nat_le 1 (length whole + length fraction)) _ h in
    let e = mapped _ (exponent_of (behind_fraction (behind_digits bytes))) p.1 in (
      some_bytes bytes (at_least (length whole + length fraction) p.0),
      digits_join bytes
          (point_joins (behind_digits bytes)
          (exponent_joins (behind_fraction (behind_digits bytes)) e)),
    )

pub number_joins : (bytes : List ℕ) → IsSome (number_of bytes) → Joins true bytes
number_joins bytes h =
    let p = some_then (nat_le (length bytes) 38)
    (unsigned_number (starts_with_minus bytes) (without_leading_sign bytes)) h in
    let m = mantissa_joins (starts_with_minus bytes) (without_leading_sign bytes) p.1 in
    unsigned_joins bytes m.0 m.1
