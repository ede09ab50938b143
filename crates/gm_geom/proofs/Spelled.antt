-- A text spells a number exactly where the function gives it.
use Rattle.std.proofs.Common.{◌≡◌, ℕ, ◌+◌, ◌^◌, ◌<◌, ◌≤◌, Bool, true, false, ◌&&◌, ◌||◌, ◌==◌, cond}
use Rattle.std.proofs.Common.{le-leb, leb-true, leb as nat_le, List, [], ◌∷◌, ◌++◌, length, Some}
use Rattle.std.proofs.Common.{None, Ok, Err, ℤ, pos, negsuc, refl, sym, ap, ◌∙◌, subst, inl, inr}
use Rattle.std.proofs.Common.{arith, append-nil, lit<}
use Rattle.std.specs.Prelude.{Option, Result, ◌⊎◌, ◌↔◌, nat_lt}
use Rattle.std.specs.List.{list_all, prefix_len}
use Rattle.std.specs.Char.{is_ascii_digit}
use Rattle.std.specs.Str.Parse.{digits_value, starts_with_minus, without_leading_sign}
use Rattle.std.proofs.lemmas.Bool.{and_parts, and_from, or_cases, cases_Bool, eqb-true}
use Rattle.std.proofs.lemmas.List.{take-append-drop}
use Rattle.gm_geom.specs.declared.number.Exponent.{Exponent}
use Rattle.gm_geom.specs.declared.number.Number.{Number}
use Rattle.gm_geom.specs.declared.number.NumberFault.{NumberFault}
use Rattle.gm_geom.specs.declared.number.NumberFault.TheVariants.{Form, Big}
use Rattle.gm_geom.specs.Number.{AreDigits, SpellsSign, SpellsFraction, MarksExponent}
use Rattle.gm_geom.specs.Number.{SpellsExponent, SpellsNumber, SpellsFixed, digits_at}
use Rattle.gm_geom.specs.Number.{behind_digits, has_point, fraction_at, behind_fraction}
use Rattle.gm_geom.specs.Number.{is_exponent, marked_exponent, exponent_of, mantissa_number}
use Rattle.gm_geom.specs.Number.{unsigned_number, number_of, magnitude_of, signed, in_range}
use Rattle.gm_geom.specs.Number.{rounded, if_number, fixed_of}
use Rattle.gm_geom.proofs.Numbers.{front_digits}
use Rattle.gm_geom.proofs.RoundTrip.{Stops, digits_front, behind_front, digit_is_no_sign}

-- From the parts to the function.

-- the first byte is no sign
abbrev HasNoSign : List ℕ → Type 0
HasNoSign [] = Unit {0}
HasNoSign (b ∷ bytes) = ((b == 45) ≡ false) × ((b == 43) ≡ false)

plain : (bytes : List ℕ) → HasNoSign bytes
    → (starts_with_minus bytes ≡ false) × (without_leading_sign bytes ≡ bytes)
plain [] none = (refl, refl)
plain (b ∷ bytes) none = (none.0, rw (none.0, none.1) refl)

behind_sign : (negative : Bool) (sign rest : List ℕ) → SpellsSign sign negative → HasNoSign rest
    → (starts_with_minus (sign ++ rest) ≡ negative) × (without_leading_sign (sign ++ rest) ≡ rest)
behind_sign true sign rest e none = rw e (refl, refl)
behind_sign false sign rest (inl e) none = rw e (plain rest none)
behind_sign false sign rest (inr e) none = rw e (refl, refl)

digits_have_none : (ds rest : List ℕ) → AreDigits ds → 0 < length ds → HasNoSign (ds ++ rest)
digits_have_none [] rest all some = absurd (omega arith)
digits_have_none (d ∷ ds) rest all some =
    let digit : is_ascii_digit d ≡ true =
    (and_parts (is_ascii_digit d) (list_all is_ascii_digit ds) all).0 in
    (digit_is_no_sign d 45 digit (lit< tt), digit_is_no_sign d 43 digit (lit< tt))

-- what an exponent's text begins with
end_stops : (text : List ℕ) (e : Exponent) → SpellsExponent text e
    → (Stops text) × (has_point text ≡ false)
end_stops text e (inl none) = rw none.0 (tt, refl)
end_stops text e (inr s) = rw s.written (begun s.mark (s.sign ++ s.digits) s.marked)
  where
    begun : (mark : ℕ) (rest : List ℕ) → (mark ≡ 101) ⊎ (mark ≡ 69)
        → (Stops (mark ∷ rest)) × (has_point (mark ∷ rest) ≡ false)
    begun mark rest (inl m) = rw m (refl, refl)
    begun mark rest (inr m) = rw m (refl, refl)

exponent_read : (text : List ℕ) (e : Exponent) → SpellsExponent text e → exponent_of text ≡ Some e
exponent_read text e (inl none) = rw (none.0, none.1) refl
exponent_read text e (inr s) =
    ap exponent_of s.written ∙ marked s.mark (s.sign ++ s.digits) s.marked
    ∙ ap (λ t. cond t
    (Some (record {
      negative = starts_with_minus (s.sign ++ s.digits);
      value = digits_value 10 (without_leading_sign (s.sign ++ s.digits));
    })) None)
    (ap is_exponent split.1 ∙ fits)
    ∙ ap (λ b. Some
    (record {
      negative = b;
      value = digits_value 10 (without_leading_sign (s.sign ++ s.digits));
    })) split.0
    ∙ ap (λ ds. Some (record { negative = e.negative; value = digits_value 10 ds })) split.1
    ∙ ap (λ v. Some (record { negative = e.negative; value = v })) (sym s.value)
  where
    marked : (mark : ℕ) (rest : List ℕ) → (mark ≡ 101) ⊎ (mark ≡ 69)
        → exponent_of (mark ∷ rest) ≡ marked_exponent rest
    marked mark rest (inl m) = rw m refl
    marked mark rest (inr m) = rw m refl

    bare : HasNoSign s.digits
    bare = subst HasNoSign (append-nil s.digits) (digits_have_none s.digits [] s.are_digits s.some)

    split : (starts_with_minus (s.sign ++ s.digits) ≡ e.negative)
        × (without_leading_sign (s.sign ++ s.digits) ≡ s.digits)
    split = behind_sign e.negative s.sign s.digits s.signed bare

    fits : is_exponent s.digits ≡ true
    fits = and_from (nat_le 1 (length s.digits) && nat_le (length s.digits) 3)
        (list_all is_ascii_digit s.digits)
        (and_from (nat_le 1 (length s.digits)) (nat_le (length s.digits) 3)
        (le-leb 1 (length s.digits) s.some) (le-leb (length s.digits) 3 s.few)) s.are_digits

-- what stands behind the whole part
fraction_read : (fraction decimals exponent : List ℕ) → SpellsFraction fraction decimals
    → Stops exponent → has_point exponent ≡ false
    → (Stops (fraction ++ exponent)) × (fraction_at (fraction ++ exponent) ≡ decimals)
    × (behind_fraction (fraction ++ exponent) ≡ exponent)
fraction_read fraction decimals exponent (inl none) stops bare =
    rw (none.0, none.1) (stops, rw bare refl, rw bare refl)
fraction_read fraction decimals exponent (inr some) stops bare =
    rw some.0 (
      refl,
      digits_front decimals exponent some.1 stops,
      behind_front decimals exponent some.1 stops,
    )

unsigned_read : (negative : Bool) (whole fraction decimals exponent : List ℕ) (e : Exponent)
    → AreDigits whole → SpellsFraction fraction decimals → 1 ≤ length whole + length decimals
    → SpellsExponent exponent e
    → unsigned_number negative (whole ++ (fraction ++ exponent))
    ≡ Some (record {
      negative = negative;
      value = digits_value 10 (whole ++ decimals);
      places = length decimals;
      exponent = e;
    })
unsigned_read negative whole fraction decimals exponent e all s some end =
    let rest : List ℕ = fraction ++ exponent in
    let ends = end_stops exponent e end in
    let f = fraction_read fraction decimals exponent s ends.0 ends.1 in
    ap (λ x. mantissa_number negative x (fraction_at (behind_digits (whole ++ rest)))
    (exponent_of (behind_fraction (behind_digits (whole ++ rest)))))
    (digits_front whole rest all f.0)
    ∙ ap (λ x. mantissa_number negative whole (fraction_at x) (exponent_of (behind_fraction x)))
    (behind_front whole rest all f.0)
    ∙ ap (λ x. mantissa_number negative whole x (exponent_of (behind_fraction rest))) f.1
    ∙ ap (λ x. mantissa_number negative whole decimals (exponent_of x)) f.2
    ∙ ap (λ x. mantissa_number negative whole decimals x) (exponent_read exponent e end)
    ∙ ap (λ t. cond t
    (Some (record {
      negative = negative;
      value = digits_value 10 (whole ++ decimals);
      places = length decimals;
      exponent = e;
    })) None)
    (le-leb 1 (length whole + length decimals) some)

parts_have_none : (whole fraction decimals exponent : List ℕ) → AreDigits whole
    → SpellsFraction fraction decimals → 1 ≤ length whole + length decimals
    → HasNoSign (whole ++ (fraction ++ exponent))
parts_have_none [] fraction decimals exponent all (inl none) some =
    absurd (omega (arith, ap length none.1))
parts_have_none [] fraction decimals exponent all (inr s) some = rw s.0 (refl, refl)
parts_have_none (d ∷ ds) fraction decimals exponent all s some =
    digits_have_none (d ∷ ds) (fraction ++ exponent) all (omega arith)

number_read : (text : List ℕ) (n : Number) → SpellsNumber text n → number_of text ≡ Some n
number_read text n s =
    let rest : List ℕ = s.whole ++ (s.fraction ++ s.exponent) in
    let split = behind_sign n.negative s.sign rest s.signed
    (parts_have_none s.whole s.fraction s.decimals s.exponent s.are_digits
    s.behind_point s.some) in
    ap (λ t. cond t (unsigned_number (starts_with_minus text) (without_leading_sign text)) None)
    (le-leb (length text) 38 s.short)
    ∙ ap (λ t. unsigned_number (starts_with_minus t) (without_leading_sign t)) s.written
    ∙ ap (λ b. unsigned_number b (without_leading_sign (s.sign ++ rest))) split.0
    ∙ ap (λ r. unsigned_number n.negative r) split.1
    ∙ unsigned_read n.negative s.whole s.fraction s.decimals s.exponent n.exponent s.are_digits
    s.behind_point s.some s.raised
    ∙ ap (λ v. Some
    (record {
      negative = n.negative;
      value = v;
      places = length s.decimals;
      exponent = n.exponent;
    })) (sym s.value)
    ∙ ap (λ p. Some
    (record { negative = n.negative; value = n.value; places = p; exponent = n.exponent }))
    (sym s.shifted)

-- From the function to the parts.

sign_split : (text : List ℕ)
    → (sign : List ℕ) × SpellsSign sign (starts_with_minus text)
    × (text ≡ sign ++ without_leading_sign text)
sign_split [] = ([], inl refl, refl)
sign_split (b ∷ bytes) = elim (cases_Bool (b == 45)) [
  | inl m ↦ (45 ∷ [], rw m refl, rw m (ap (λ c. c ∷ bytes) (eqb-true b 45 m)))
  | inr m ↦ elim (cases_Bool (b == 43)) [
    | inl p ↦ (43 ∷ [], rw m (inr refl), rw (m, p) (ap (λ c. c ∷ bytes) (eqb-true b 43 p)))
    | inr p ↦ ([], rw m (inl refl), rw (m, p) refl)
  ]
]

fraction_split : (bytes : List ℕ)
    → (fraction : List ℕ) × SpellsFraction fraction (fraction_at bytes)
    × (bytes ≡ fraction ++ behind_fraction bytes)
fraction_split [] = ([], inl (refl, refl), refl)
fraction_split (b ∷ bytes) = elim (cases_Bool (b == 46)) [
  | inl p ↦ (
    46 ∷ digits_at bytes,
    rw p (inr (refl, front_digits bytes)),
    rw p (ap (λ c. c ∷ bytes) (eqb-true b 46 p)
        ∙ ap (λ t. 46 ∷ t) (sym (take-append-drop (prefix_len is_ascii_digit bytes) bytes))),
  )
  | inr p ↦ ([], rw p (inl (refl, refl)), rw p refl)
]

marks : (b : ℕ) → (b == 101 || b == 69) ≡ true → (b ≡ 101) ⊎ (b ≡ 69)
marks b m = elim (or_cases (b == 101) (b == 69) m) [
  | inl x ↦ inl (eqb-true b 101 x)
  | inr x ↦ inr (eqb-true b 69 x)
]

marked_split : (b : ℕ) (bytes : List ℕ) (e : Exponent) → (b ≡ 101) ⊎ (b ≡ 69)
    → marked_exponent bytes ≡ Some e → MarksExponent (b ∷ bytes) e
marked_split b bytes e mark r = elim (cases_Bool (is_exponent (without_leading_sign bytes))) [
  | inl t ↦ subst (λ (x : Exponent). MarksExponent (b ∷ bytes) x) (same t) (parts t)
  | inr t ↦ absurd (none t)
]
  where
    digits : List ℕ
    digits = without_leading_sign bytes

    read : Exponent
    read = record {
      negative = starts_with_minus bytes;
      value = digits_value 10 (without_leading_sign bytes);
    }

    same : is_exponent (without_leading_sign bytes) ≡ true
        → record {
          negative = starts_with_minus bytes;
          value = digits_value 10 (without_leading_sign bytes);
        } ≡ e
    same t = let whole : Some
        (record {
          negative = starts_with_minus bytes;
          value = digits_value 10 (without_leading_sign bytes);
        }) ≡ Some e = rw t at r in cc

    none : is_exponent (without_leading_sign bytes) ≡ false → ⊥
    none t = let whole : None ≡ Some e = rw t at r in cc

    parts : is_exponent (without_leading_sign bytes) ≡ true
        → MarksExponent (b ∷ bytes)
        (record {
          negative = starts_with_minus bytes;
          value = digits_value 10 (without_leading_sign bytes);
        })
    parts t =
        let sign = sign_split bytes in
        let tests = and_parts
        (nat_le 1 (length (without_leading_sign bytes))
        && nat_le (length (without_leading_sign bytes)) 3)
        (list_all is_ascii_digit (without_leading_sign bytes)) t in
        let lengths = and_parts (nat_le 1 (length (without_leading_sign bytes)))
        (nat_le (length (without_leading_sign bytes)) 3) tests.0 in record {
          mark = b;
          sign = sign.0;
          digits = without_leading_sign bytes;
          marked = mark;
          signed = sign.1;
          are_digits = tests.1;
          some = leb-true 1 (length (without_leading_sign bytes)) lengths.0;
          few = leb-true (length (without_leading_sign bytes)) 3 lengths.1;
          value = refl;
          written = ap (λ t. b ∷ t) sign.2;
        }

exponent_split : (bytes : List ℕ) (e : Exponent) → exponent_of bytes ≡ Some e
    → SpellsExponent bytes e
exponent_split [] e r = inl (refl, cc)
exponent_split (b ∷ bytes) e r = elim (cases_Bool (b == 101 || b == 69)) [
  | inl m ↦ inr (marked_split b bytes e (marks b m) (rw m at r))
  | inr m ↦ absurd (none (rw m at r))
]
  where
    none : None ≡ Some e → ⊥
    none x = cc

mantissa_split : (negative : Bool) (whole decimals : List ℕ) (o : Option Exponent) (n : Number)
    → mantissa_number negative whole decimals o ≡ Some n
    → (e : Exponent) × (1 ≤ length whole + length decimals) × (o ≡ Some e)
    × (record {
      negative = negative;
      value = digits_value 10 (whole ++ decimals);
      places = length decimals;
      exponent = e;
    } ≡ n)
mantissa_split negative whole decimals None n r =
    elim (cases_Bool (nat_le 1 (length whole + length decimals))) [
      | inl t ↦ absurd (none (rw t at r))
      | inr t ↦ absurd (none (rw t at r))
    ]
  where
    none : None ≡ Some n → ⊥
    none x = cc
mantissa_split negative whole decimals (Some e) n r =
    elim (cases_Bool (nat_le 1 (length whole + length decimals))) [
      | inl t ↦ (e, leb-true 1 (length whole + length decimals) t, refl, some (rw t at r))
      | inr t ↦ absurd (none (rw t at r))
    ]
  where
    none : None ≡ Some n → ⊥
    none x = cc

    some : Some (record {
      negative = negative;
      value = digits_value 10 (whole ++ decimals);
      places = length decimals;
      exponent = e;
    }) ≡ Some n
        → record {
          negative = negative;
          value = digits_value 10 (whole ++ decimals);
          places = length decimals;
          exponent = e;
        } ≡ n
    some x = cc

number_split : (text : List ℕ) (n : Number) → number_of text ≡ Some n → SpellsNumber text n
number_split text n r = elim (cases_Bool (nat_le (length text) 38)) [
  | inl t ↦ found (leb-true (length text) 38 t) (rw t at r)
  | inr t ↦ absurd (none (rw t at r))
]
  where
    none : None ≡ Some n → ⊥
    none x = cc

    bytes : List ℕ
    bytes = without_leading_sign text

    found : length text ≤ 38
        → unsigned_number (starts_with_minus text) (without_leading_sign text) ≡ Some n
        → SpellsNumber text n
    found short u =
        let sign = sign_split text in
        let whole : List ℕ = digits_at (without_leading_sign text) in
        let behind : List ℕ = behind_digits (without_leading_sign text) in
        let fraction = fraction_split (behind_digits (without_leading_sign text)) in
        let m = mantissa_split (starts_with_minus text) (digits_at (without_leading_sign text))
        (fraction_at (behind_digits (without_leading_sign text)))
        (exponent_of (behind_fraction (behind_digits (without_leading_sign text)))) n u in
        subst (λ (x : Number). SpellsNumber text x) m.3 (record {
          sign = sign.0;
          whole = digits_at (without_leading_sign text);
          fraction = fraction.0;
          decimals = fraction_at (behind_digits (without_leading_sign text));
          exponent = behind_fraction (behind_digits (without_leading_sign text));
          signed = sign.1;
          are_digits = front_digits (without_leading_sign text);
          behind_point = fraction.1;
          some = m.1;
          value = refl;
          shifted = refl;
          raised = exponent_split
              (behind_fraction (behind_digits (without_leading_sign text))) m.0 m.2;
          short = short;
          written = sign.2
              ∙ ap (λ t. sign.0 ++ t)
              (sym (take-append-drop (prefix_len is_ascii_digit (without_leading_sign text))
              (without_leading_sign text))
              ∙ ap (λ t. digits_at (without_leading_sign text) ++ t) fraction.2);
        })

-- The laws.

pub number_is_spelled : (text : List ℕ) (n : Number)
    → SpellsNumber text n ↔ (number_of text ≡ Some n)
number_is_spelled text n = (number_read text n, number_split text n)

pub one_number : (text : List ℕ) (n m : Number) → SpellsNumber text n → SpellsNumber text m → n ≡ m
one_number text n m s t = let a : number_of text ≡ Some n = number_read text n s in
    let b : number_of text ≡ Some m = number_read text m t in cc

reads : (text : List ℕ) → (number_of text ≡ None) ⊎ ((n : Number) × (number_of text ≡ Some n))
reads text = cases (number_of text)
  where
    cases : (o : Option Number) → (o ≡ None) ⊎ ((n : Number) × (o ≡ Some n))
    cases None = inl refl
    cases (Some n) = inr (n, refl)

-- what reading answers, where a number is spelled, is what rounding answers
abbrev Rounds : List ℕ → Result ℤ NumberFault → Type 0
Rounds text answer = (n : Number) × SpellsNumber text n × (rounded n ≡ answer)

answers : (text : List ℕ) (answer : Result ℤ NumberFault) → Rounds text answer
    → fixed_of text ≡ answer
answers text answer s = ap if_number (number_read text s.0 s.1) ∙ s.2

rounds : (text : List ℕ) (answer : Result ℤ NumberFault) → (Err Form ≡ answer → ⊥)
    → fixed_of text ≡ answer → Rounds text answer
rounds text answer other r = elim (reads text) [
  | inl e ↦ absurd (other (sym (ap if_number e) ∙ r))
  | inr p ↦ (p.0, number_split text p.0 p.1, sym (ap if_number p.1) ∙ r)
]

pub fixed_is_spelled : (text : List ℕ) (z : ℤ) → SpellsFixed text z ↔ (fixed_of text ≡ Ok z)
fixed_is_spelled text z = (answers text (Ok z), rounds text (Ok z) (λ e. other e))
  where
    other : Err Form ≡ Ok z → ⊥
    other e = cc

faults_differ : (r : Result ℤ NumberFault) → r ≡ Err Form → r ≡ Err Big → ⊥
faults_differ r form big = cc

pub big_is_spelled : (text : List ℕ) → Rounds text (Err Big) ↔ (fixed_of text ≡ Err Big)
big_is_spelled text =
    (answers text (Err Big), rounds text (Err Big) (λ e. faults_differ (Err Form) refl e))

ranged : (z : ℤ) → in_range z ≡ Err Form → ⊥
ranged (pos n) e = elim (cases_Bool (nat_lt n (2 ^ 31))) [
  | inl t ↦ kept (rw t at e)
  | inr t ↦ faults_differ (Err Big) (rw t at e) refl
]
  where
    kept : Ok (pos n) ≡ Err Form → ⊥
    kept x = cc
ranged (negsuc n) e = elim (cases_Bool (nat_lt n (2 ^ 31))) [
  | inl t ↦ kept (rw t at e)
  | inr t ↦ faults_differ (Err Big) (rw t at e) refl
]
  where
    kept : Ok (negsuc n) ≡ Err Form → ⊥
    kept x = cc

pub none_is_spelled : (text : List ℕ)
    → ((n : Number) → SpellsNumber text n → ⊥) ↔ (fixed_of text ≡ Err Form)
none_is_spelled text = (
  λ none. elim (reads text) [
    | inl e ↦ ap if_number e
    | inr p ↦ absurd (none p.0 (number_split text p.0 p.1))
  ],
  λ e n s. ranged (signed n.negative (magnitude_of n))
      (sym (ap if_number (number_read text n s)) ∙ e),
)
