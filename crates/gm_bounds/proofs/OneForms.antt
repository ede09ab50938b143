-- The test of a form is true exactly where there is a value with that form.
use Rattle.std.proofs.Common.{Fits, get_or, inl, inr, ◌≡◌, ℕ, zero, suc, ◌+◌, ◌-◌, ◌*◌, ◌/◌, ◌%◌}
use Rattle.std.proofs.Common.{◌^◌, ◌<◌, Bool, true, false, ◌&&◌, [], ◌∷◌, ◌++◌, length}
use Rattle.std.proofs.Common.{length-append, take, slice_index, refl, sym, ap, ◌∙◌, true≢false}
use Rattle.std.proofs.Common.{Option, Some, None, cond, eqb, arith, subst, append-nil, mod-eq_of_lt}
use Rattle.std.proofs.Common.{mod-lt, div-one, drop}
use Rattle.std.proofs.Math.Nat.{one-le-pow}
use Rattle.std.proofs.lemmas.Bool.{and_parts, and_from, or_cases, or_left, or_right, eqb-true}
use Rattle.std.proofs.lemmas.Bool.{eq-eqb, ltb-true}
use Rattle.std.proofs.lemmas.Bool.Decides.{same_from_decides, nat_tests}
use Rattle.std.proofs.lemmas.Int.{ints}
use Rattle.std.proofs.lemmas.List.{drop_all}
use Rattle.std.proofs.lemmas.List.Elements.{All-from_recursion, recursion_from_All}
use Rattle.std.proofs.lemmas.Nat.{same_from_place, mod-pow-add}
use Rattle.std.proofs.lemmas.Slice.Eq.{bytes_eq-Decides}
use Rattle.std.proofs.lemmas.Str.{IsUtf8-from_is_utf8, is_utf8-from_IsUtf8}
use Rattle.std.specs.Bool.{Decides}
use Rattle.std.specs.Prelude.{ℤ, pos, negsuc, ◌+ℤ◌, ◌-ℤ◌, neg_ℤ, int_le, bit_xor, FitsSigned}
use mir.Syntax.{w8}
use Rattle.std.specs.Int.{w32, w64, byte_at, cast_unsigned}
use Rattle.std.specs.List.{list_all, AllByRecursion}
use Rattle.std.specs.Str.{bytes_eq}
use Rattle.std.specs.Option.{option_eq}
use Rattle.byteorder.specs.Endian.{big_bytes, big_from}
use Rattle.byteorder.specs.Numbers.{big_from-cons, big_from-lt, big_number-reads_back}
use Rattle.byteorder.specs.Numbers.{length-bytes_high_first}
use Rattle.gm_base.proofs.Booleans.{and_true}
use Rattle.gm_base.proofs.Numbers.{le_from, le_to, pow256}
use Rattle.gm_calendar.specs.Instant.{IsInstant, is_instant}
use Rattle.gm_lexi.specs.Ends.{after_of}
use Rattle.gm_lexi.specs.Lexicode.{int_bytes, long_bytes, date_bytes, bool_bytes, text_bytes}
use Rattle.gm_lexi.specs.Lexicode.{IsLexicalText}
use Rattle.gm_types.specs.declared.kind.Kind.{Kind}
use Rattle.gm_types.specs.declared.kind.Kind.TheVariants as kind
use Rattle.gm_bounds.specs.declared.byte_range.ByteRange.{ByteRange}
use Rattle.gm_bounds.specs.OneValue.{IsForm, IsOfOneValue, is_byte, is_wide, nothing_before}
use Rattle.gm_bounds.specs.OneValue.{with_byte, before_end, is_text_in_utf8, long_of, is_form}
use Rattle.gm_bounds.specs.OneValue.{is_of_one_value}
use Rattle.gm_bounds.proofs.InForms.{high_first_bytes}
use Rattle.gm_bounds.proofs.InOrder.{Bytes}

-- what gm_lexi says of numbers by their places
pub record PlaceLaws : Type 0 where
  pub ints : (value : ℤ) (place : ℕ) → FitsSigned w32 value → pos place ≡ value +ℤ pos (2 ^ 31)
      → int_bytes value ≡ big_bytes 4 place
  pub longs : (value : ℤ) (place : ℕ) → FitsSigned w64 value → pos place ≡ value +ℤ pos (2 ^ 63)
      → long_bytes value ≡ big_bytes 8 place

-- ---- bytes by their number

byte_at-pow : (k n : ℕ) → byte_at k n ≡ n / 256 ^ k % 256
byte_at-pow zero n = ap (λ (x : ℕ). x % 256) (sym (div-one n))
byte_at-pow (suc k) n = refl

-- the highest of k + 1 bytes, and what the others say
split : (k n : ℕ) → n % 256 ^ suc k ≡ byte_at k n * 256 ^ k + n % 256 ^ k
split k n =
    let eight : 8 * suc k ≡ 8 + 8 * k = omega arith in
    ap (λ (m : ℕ). n % m) (pow256 (suc k) ∙ ap (λ (m : ℕ). 2 ^ m) eight) ∙ mod-pow-add n 8 (8 * k)
    ∙ ap (λ (m : ℕ). (n / m % 256) * m + n % m) (sym (pow256 k))
    ∙ ap (λ (t : ℕ). t * 256 ^ k + n % 256 ^ k) (sym (byte_at-pow k n))

-- what is above k bytes does not count in them
same_low : (k a b : ℕ) → a % 256 ^ k ≡ b % 256 ^ k → big_bytes k a ≡ big_bytes k b
same_low zero a b same = refl
same_low (suc k) a b same =
    let one = one-le-pow k 256 (omega arith) in
    let parts = same_from_place (byte_at k a) (a % 256 ^ k) (byte_at k b) (b % 256 ^ k) (256 ^ k)
    (mod-lt a (omega arith)) (mod-lt b (omega arith)) (sym (split k a) ∙ same ∙ split k b) in
    (λ i. parts.0 i ∷ same_low k a b parts.1 i)

not_zero : (b : ℕ) → eqb b 0 ≡ false → 0 < b
not_zero zero h = absurd (true≢false h)
not_zero (suc b) h = omega arith

small_at : (xs : Bytes) → list_all is_byte xs ≡ true → (i : ℕ) → slice_index xs i < 256
small_at [] h zero = omega arith
small_at [] h (suc i) = omega arith
small_at (x ∷ xs) h zero = ltb-true x 256 (and_parts (is_byte x) (list_all is_byte xs) h).0
small_at (x ∷ xs) h (suc i) = small_at xs (and_parts (is_byte x) (list_all is_byte xs) h).1 i

-- bytes are those of the number that they write
written : (k : ℕ) (xs : Bytes) → length xs ≡ k → ((i : ℕ) → slice_index xs i < 256)
    → big_bytes k (big_from 0 k xs) ≡ xs
written zero [] long small = refl
written zero (x ∷ xs) long small = absurd (omega (arith, long))
written (suc k) [] long small = absurd (omega (arith, long))
written (suc k) (x ∷ xs) long small =
    let later : (i : ℕ) → slice_index xs i < 256 = λ i. small (suc i) in
    let rest = big_from 0 k xs in
    let whole = big_from 0 (suc k) (x ∷ xs) in
    let is : whole ≡ x * 256 ^ k + rest =
    ap (λ (n : ℕ). x * 256 ^ k + n) (big_from-cons 0 k x xs) in
    let below : rest < 256 ^ k = big_from-lt 0 k xs later in
    let same : byte_at k whole * 256 ^ k + whole % 256 ^ k ≡ x * 256 ^ k + rest =
    sym (split k whole) ∙ mod-eq_of_lt (big_from-lt 0 (suc k) (x ∷ xs) small) ∙ is in
    let parts = same_from_place (byte_at k whole) (whole % 256 ^ k) x rest (256 ^ k)
    (mod-lt whole (omega arith)) below same in
    (λ i. parts.0 i ∷ same_low k whole rest (parts.1 ∙ sym (mod-eq_of_lt below)) i)
    ∙ ap (λ tail. x ∷ tail) (written k xs (omega (arith, long)) later)

below_tests : (n : ℕ) → n < 256 → is_byte n ≡ true
below_tests n h = grind (arith, nat_tests)

all_small : (xs : Bytes) → AllByRecursion (λ byte. byte < 256) xs → list_all is_byte xs ≡ true
all_small [] h = refl
all_small (x ∷ xs) h =
    and_from (is_byte x) (list_all is_byte xs) (below_tests x h.0) (all_small xs h.1)

wide_bytes : (k n : ℕ) → is_wide k (big_bytes k n) ≡ true
wide_bytes k n =
    and_from (eqb (length (big_bytes k n)) k) _
    (eq-eqb (length (big_bytes k n)) k (length-bytes_high_first k n))
    (all_small (big_bytes k n) (high_first_bytes k n))

-- ---- numbers and their places

fits32 : (z : ℤ) (place : ℕ) → pos place ≡ z +ℤ pos (2 ^ 31) → place < 256 ^ 4 → FitsSigned w32 z
fits32 (pos n) place is below = record { sfits = omega (arith, ints, is, below) }
fits32 (negsuc n) place is below = record { sfits = omega (arith, ints, is, below) }

fits64 : (z : ℤ) (place : ℕ) → pos place ≡ z +ℤ pos (2 ^ 63) → place < 256 ^ 8 → FitsSigned w64 z
fits64 (pos n) place is below = record { sfits = omega (arith, ints, is, below) }
fits64 (negsuc n) place is below = record { sfits = omega (arith, ints, is, below) }

instant_fits : (z : ℤ) → IsInstant z → FitsSigned w64 z
instant_fits (pos n) is = record { sfits = omega (arith, ints, is.0, is.1) }
instant_fits (negsuc n) is = record { sfits = omega (arith, ints, is.0, is.1) }

-- the place of a number of 64 bits
place64 : (z : ℤ) → FitsSigned w64 z
    → (place : ℕ) × (pos place ≡ z +ℤ pos (2 ^ 63)) × (place < 256 ^ 8)
place64 (pos n) fits = (n + 2 ^ 63, refl, omega (arith, fits.sfits))
place64 (negsuc n) fits = (2 ^ 63 - suc n, omega (arith, ints, fits.sfits), omega arith)

at_place : (k p : ℕ) (z : ℤ) → z ≡ pos p -ℤ pos k → pos p ≡ z +ℤ pos k
at_place k p z is = omega (arith, ints, is)

module _ (laws : PlaceLaws) where
  int_found : (form : Bytes) → is_wide 4 form ≡ true → IsForm kind.Integer form
  int_found form h =
      let parts = and_parts (eqb (length form) 4) (list_all is_byte form) h in
      let small = small_at form parts.1 in
      let place : ℕ = big_from 0 4 form in
      let value : ℤ = pos place -ℤ pos (2 ^ 31) in
      let is = at_place (2 ^ 31) place value refl in
      let fits = fits32 value place is (big_from-lt 0 4 form small) in (
        value,
        fits,
        sym (written 4 form (eqb-true (length form) 4 parts.0) small)
            ∙ sym (laws.ints value place fits is),
      )

  int_wide : (form : Bytes) → IsForm kind.Integer form → is_wide 4 form ≡ true
  unfolding int_bytes
  int_wide form h = ap (is_wide 4) h.2 ∙ wide_bytes 4 (bit_xor (cast_unsigned w32 h.0) (2 ^ 31))

  long_is : (form : Bytes) → is_wide 8 form ≡ true
      → FitsSigned w64 (long_of form) × (form ≡ long_bytes (long_of form))
  long_is form h =
      let parts = and_parts (eqb (length form) 8) (list_all is_byte form) h in
      let small = small_at form parts.1 in
      let is = at_place (2 ^ 63) (big_from 0 8 form) (long_of form) refl in
      let fits = fits64 (long_of form) (big_from 0 8 form) is (big_from-lt 0 8 form small) in (
        fits,
        sym (written 8 form (eqb-true (length form) 8 parts.0) small)
            ∙ sym (laws.longs (long_of form) (big_from 0 8 form) fits is),
      )

  long_wide : (z : ℤ) → is_wide 8 (long_bytes z) ≡ true
  unfolding long_bytes
  long_wide z = wide_bytes 8 (bit_xor (cast_unsigned w64 z) (2 ^ 63))

  long_back : (z : ℤ) → FitsSigned w64 z → long_of (long_bytes z) ≡ z
  long_back z fits =
      let at = place64 z fits in
      let read : big_from 0 8 (long_bytes z) ≡ at.0 =
      ap (big_from 0 8) (laws.longs z at.0 fits at.1 ∙ sym (append-nil (big_bytes 8 at.0)))
      ∙ big_number-reads_back 8 at.0 [] at.2 in
      omega (arith, ints, read, at.1)

  pub date_decides : (form : Bytes) → Decides (is_form kind.Date form) (IsForm kind.Date form)
  date_decides form = (
    λ h. let parts = and_parts (is_wide 8 form) (is_instant (long_of form)) h in
        let ends = and_parts (int_le (neg_ℤ (pos 62_167_219_200_000)) (long_of form))
        (int_le (long_of form) (pos 253_402_300_799_999)) parts.1 in
        (long_of form, (le_from _ _ ends.0, le_from _ _ ends.1), (long_is form parts.0).1),
    λ h. let back : long_of form ≡ h.0 = ap long_of h.2 ∙ long_back h.0 (instant_fits h.0 h.1) in
        and_from (is_wide 8 form) _ (ap (is_wide 8) h.2 ∙ long_wide h.0)
        (ap is_instant back
        ∙ and_from (int_le (neg_ℤ (pos 62_167_219_200_000)) h.0) _ (le_to _ _ h.1.0)
        (le_to _ _ h.1.1)),
  )

-- ---- texts

-- the text that stands before the end, without 0
record IsBefore (text form : Bytes) : Type 0 where
  some : AllByRecursion (λ byte. 0 < byte) text
  is : form ≡ text_bytes text

alone_before : (form text : Bytes) → nothing_before form ≡ Some text → (x : ℕ) → x ≡ 0
    → IsBefore text (x ∷ form)
alone_before [] text h x zero_is = let none : text ≡ [] = cc in record {
  some = subst (AllByRecursion (λ byte. 0 < byte)) (sym none) tt;
  is = (λ i. zero_is i ∷ []) ∙ ap text_bytes (sym none);
}
alone_before (y ∷ form) text h x zero_is = absurd (cc)

more_before : (x : ℕ) (form text : Bytes) (o : Option Bytes) → 0 < x
    → ((t : Bytes) → o ≡ Some t → IsBefore t form) → with_byte x o ≡ Some text
    → IsBefore text (x ∷ form)
more_before x form text None some later h = absurd (cc)
more_before x form text (Some t) some later h =
    let before = later t refl in
    let whole : x ∷ t ≡ text = cc in
    record {
      some = subst (AllByRecursion (λ byte. 0 < byte)) whole (some, before.some);
      is = ap (λ bytes. x ∷ bytes) before.is ∙ ap text_bytes whole;
    }

found_before_at : (x : ℕ) (form text : Bytes)
    → ((t : Bytes) → before_end form ≡ Some t → IsBefore t form) → (b : Bool) → eqb x 0 ≡ b
    → cond b (nothing_before form) (with_byte x (before_end form)) ≡ Some text
    → IsBefore text (x ∷ form)
found_before_at x form text later true is h = alone_before form text h x (eqb-true x 0 is)
found_before_at x form text later false is h =
    more_before x form text (before_end form) (not_zero x is) later h

found_before : (form text : Bytes) → before_end form ≡ Some text → IsBefore text form
found_before [] text h = absurd (cc)
found_before (x ∷ form) text h = found_before_at x form text (found_before form) (eqb x 0) refl h

ended_at : (x : ℕ) (form text : Bytes) → 0 < x → before_end form ≡ Some text → (b : Bool)
    → eqb x 0 ≡ b → cond b (nothing_before form) (with_byte x (before_end form)) ≡ Some (x ∷ text)
ended_at x form text some later true is = let none : x ≡ 0 = eqb-true x 0 is in
    absurd (omega (arith, none, some))
ended_at x form text some later false is = ap (with_byte x) later

ended : (text : Bytes) → AllByRecursion (λ byte. 0 < byte) text
    → before_end (text_bytes text) ≡ Some text
ended [] some = refl
ended (x ∷ text) some = ended_at x (text_bytes text) text some.0 (ended text some.1) (eqb x 0) refl

text_form : (form : Bytes) (o : Option Bytes) → before_end form ≡ o → is_text_in_utf8 o ≡ true
    → IsForm kind.Text form
text_form form None is h = absurd (true≢false (sym h))
text_form form (Some text) is h =
    let before = found_before form text is in (
      text,
      record {
        utf8 = IsUtf8-from_is_utf8 text h;
        no_zero = All-from_recursion (λ byte. 0 < byte) text before.some;
      },
      before.is,
    )

pub text_decides : (form : Bytes) → Decides (is_form kind.Text form) (IsForm kind.Text form)
text_decides form = (
  text_form form (before_end form) refl,
  λ h. ap (λ f. is_text_in_utf8 (before_end f)) h.2
      ∙ ap is_text_in_utf8 (ended h.0 (recursion_from_All (λ byte. 0 < byte) h.0 h.1.no_zero))
      ∙ is_utf8-from_IsUtf8 h.0 h.1.utf8,
)

-- ---- truths

truth_decides : (form : Bytes) → Decides (is_form kind.Boolean form) (IsForm kind.Boolean form)
truth_decides form = (
  λ h. elim (or_cases (bytes_eq form (bool_bytes false)) (bytes_eq form (bool_bytes true)) h) [
    | inl e ↦ (false, (bytes_eq-Decides form (bool_bytes false)).0 e)
    | inr e ↦ (true, (bytes_eq-Decides form (bool_bytes true)).0 e)
  ],
  λ h. truth_passes h.0 form h.1,
)
  where
    truth_passes : (b : Bool) (form : Bytes) → form ≡ bool_bytes b
        → is_form kind.Boolean form ≡ true
    truth_passes false form e = or_left _ _ ((bytes_eq-Decides form (bool_bytes false)).1 e)
    truth_passes true form e =
        or_right (bytes_eq form (bool_bytes false)) _
        ((bytes_eq-Decides form (bool_bytes true)).1 e)

-- ---- any form, and a range

form_decides : PlaceLaws → (k : Kind) (form : Bytes) → Decides (is_form k form) (IsForm k form)
form_decides laws kind.Text form = text_decides form
form_decides laws kind.Integer form = (int_found laws form, int_wide laws form)
form_decides laws kind.Long form = (
  λ h. let l = long_is laws form h in (long_of form, l.0, l.1),
  λ h. ap (is_wide 8) h.2
      ∙ long_wide laws h.0,
)
form_decides laws kind.Boolean form = truth_decides form
form_decides laws kind.Date form = date_decides laws form
form_decides laws (kind.Geo s) form = (λ h. absurd (true≢false (sym h)), λ h. absurd h)

end_decides : (a b : Option Bytes) → Decides (option_eq bytes_eq a b) (a ≡ b)
end_decides None None = (λ h. refl, λ e. refl)
end_decides None (Some b) = (λ h. absurd (true≢false (sym h)), λ e. absurd (cc))
end_decides (Some a) None = (λ h. absurd (true≢false (sym h)), λ e. absurd (cc))
end_decides (Some a) (Some b) =
    (λ h. ap (λ x. Some x) ((bytes_eq-Decides a b).0 h), λ e. (bytes_eq-Decides a b).1 (cc))

pub one_value_decides : PlaceLaws → (k : Kind) (r : ByteRange)
    → Decides (is_of_one_value k r) (IsOfOneValue k r)
one_value_decides laws k r = (
  λ h. let parts = and_parts (is_form k r.low) (option_eq bytes_eq r.high (after_of r.low)) h in
      record {
        form = (form_decides laws k r.low).0 parts.0;
        end = (end_decides r.high (after_of r.low)).0 parts.1;
      },
  λ h. and_from (is_form k r.low) _ ((form_decides laws k r.low).1 h.form)
      ((end_decides r.high (after_of r.low)).1 h.end),
)

-- ---- what a reader of forms tells

nothing_left : (n : ℕ) (form front : Bytes) → n ≡ length form → form ≡ front ++ drop n form
    → form ≡ front
nothing_left n form front is h =
    h ∙ ap (λ rest. front ++ rest) (drop_all n form (omega (arith, is))) ∙ append-nil front

pub text_told : (form : Bytes) (n m : ℕ) → m ≡ length form
    → IsLexicalText (take n form) × (form ≡ text_bytes (take n form) ++ drop (n + 1) form)
    → ((text rest : Bytes) → IsLexicalText text → form ≡ text_bytes text ++ rest
    → Some n ≡ Some (length text)) → eqb (n + 1) m ≡ is_form kind.Text form
text_told form n m long found only = same_from_decides (eqb (n + 1) m) (is_form kind.Text form) (
  λ h. (
    take n form,
    found.0,
    nothing_left (n + 1) form (text_bytes (take n form)) (eqb-true (n + 1) m h ∙ long) found.1,
  ),
  λ h. let same : Some n ≡ Some (length h.0) =
      only h.0 [] h.1 (h.2 ∙ sym (append-nil (text_bytes h.0))) in
      let length_is : n ≡ length h.0 = cc in
      let whole = ap length h.2 ∙ length-append h.0 (0 ∷ []) in
      eq-eqb (n + 1) m (omega (arith, length_is, whole, long)),
) (text_decides form)

pub no_text : (form : Bytes)
    → ((text rest : Bytes) → IsLexicalText text → form ≡ text_bytes text ++ rest
    → ◌≡◌ {A = Option ℕ} None (Some (length text))) → false ≡ is_form kind.Text form
no_text form only = same_from_decides false (is_form kind.Text form) (
  λ h. absurd (true≢false (sym h)),
  λ h. let never : ◌≡◌ {A = Option ℕ} None (Some (length h.0)) =
      only h.0 [] h.1 (h.2 ∙ sym (append-nil (text_bytes h.0))) in absurd (cc),
) (text_decides form)

long_length : (z : ℤ) → length (long_bytes z) ≡ 8
unfolding long_bytes
long_length z = length-bytes_high_first 8 (bit_xor (cast_unsigned w64 z) (2 ^ 63))

pub date_told : PlaceLaws → (form : Bytes) (at : ℤ) (n m : ℕ) → m ≡ length form
    → IsInstant at × (n ≡ 8) × (form ≡ date_bytes at ++ drop n form)
    → eqb n m ≡ is_form kind.Date form
date_told laws form at n m long found = same_from_decides (eqb n m) (is_form kind.Date form) (
  λ h. (at, found.0, nothing_left n form (date_bytes at) (eqb-true n m h ∙ long) found.2),
  λ h. let whole = ap length h.2 ∙ long_length h.0 in let eight = found.1 in
      eq-eqb n m (omega (arith, whole, eight, long)),
) (date_decides laws form)

pub no_date : PlaceLaws → (form : Bytes)
    → ((at : ℤ) (rest : Bytes) → IsInstant at → form ≡ date_bytes at ++ rest
    → ◌≡◌ {A = Option (ℤ × ℕ)} None (Some (at, 8))) → false ≡ is_form kind.Date form
no_date laws form only = same_from_decides false (is_form kind.Date form) (
  λ h. absurd (true≢false (sym h)),
  λ h. let never : ◌≡◌ {A = Option (ℤ × ℕ)} None (Some (h.0, 8)) =
      only h.0 [] h.1 (h.2 ∙ sym (append-nil (date_bytes h.0))) in absurd (cc),
) (date_decides laws form)

are_fitting : (xs : Bytes) → ((i : ℕ) → Fits w8 (get_or xs i 0)) → list_all is_byte xs ≡ true
are_fitting [] h = refl
are_fitting (x ∷ xs) h =
    let first : Fits w8 x = h 0 in
    let later : (i : ℕ) → Fits w8 (get_or xs i 0) = λ i. h (suc i) in
    and_from (is_byte x) (list_all is_byte xs) (below_tests x (omega (arith, first)))
    (are_fitting xs later)

pub wide_is : (k : ℕ) (form : Bytes) → ((i : ℕ) → Fits w8 (get_or form i 0))
    → eqb (length form) k ≡ is_wide k form
wide_is k form small =
    sym (ap (λ b. eqb (length form) k && b) (are_fitting form small)
    ∙ and_true (eqb (length form) k))
