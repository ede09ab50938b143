-- The form of a value of which a filter is true is in one of the ranges of its attribute.
use Rattle.std.proofs.Common.{◌≡◌, ℕ, zero, suc, ◌+◌, ◌/◌, ◌^◌, ◌<◌, Bool, true, false, ◌&&◌, ◌||◌}
use Rattle.std.proofs.Common.{List, [], ◌∷◌, ◌++◌, length, refl, sym, ap, ◌∙◌, true≢false, ⊎_elim}
use Rattle.std.proofs.Common.{Option, Some, None, cond, eqb, ltb, arith, subst, append-nil}
use Rattle.std.proofs.lemmas.Bool.{and_parts, or_parts, not-true, ltb-true}
use Rattle.std.proofs.lemmas.Int.{ints}
use Rattle.std.proofs.lemmas.List.Elements.{All-from_recursion}
use Rattle.std.proofs.lemmas.Str.{IsUtf8-from_is_utf8}
use Rattle.std.specs.Str.{is_utf8}
use Rattle.std.specs.Prelude.{bit_xor, nat_le, int_le, neg_ℤ, ℤ, pos, negsuc, ◌≤ℤ◌, FitsSigned}
use Rattle.std.specs.Prelude.{IsUtf8}
use Rattle.std.specs.Int.{w32, w64, bytes_high_first, cast_unsigned}
use Rattle.std.specs.List.{list_all, AllByRecursion}
use Rattle.std.specs.Ordering.{nat_cmp, int_cmp, bool_cmp, ordering_then, is_eq}
use Rattle.std.specs.declared.cmp.Ordering.{Ordering}
use Rattle.std.specs.declared.cmp.Ordering.TheVariants.{Less, Equal, Greater}
use Rattle.std.specs.Cmp.Lexicographic.{slice_cmp}
use Rattle.std.proofs.lemmas.Cmp.{nat_list_cmp_total, tied_itself}
use lib.Utf8.{scalar, scalars, scalar_cases, encode, encodes, next}
use Rattle.gm_base.proofs.Lists.{all_append}
use Rattle.gm_base.specs.Identifier.{is_identifier, has_identifier_form}
use Rattle.gm_calendar.specs.Instant.{is_instant}
use Rattle.gm_lexi.specs.Lexicode.{int_bytes, long_bytes, date_bytes, bool_bytes, text_bytes}
use Rattle.gm_lexi.specs.Lexicode.{HasNoZero}
use Rattle.gm_types.specs.declared.kind.Kind.{Kind}
use Rattle.gm_types.specs.declared.kind.Kind.TheVariants as kind
use Rattle.gm_feature.specs.declared.value.Value.{Value}
use Rattle.gm_feature.specs.declared.value.Value.TheVariants as value
use Rattle.gm_feature.specs.Value.{value_fits, is_below, has_text_form, is_no_zero}
use Rattle.gm_filter.specs.declared.filter.Op.{Op}
use Rattle.gm_filter.specs.declared.filter.Op.TheVariants.{Eq, Ne, Lt, Le, Gt, Ge}
use Rattle.gm_filter.specs.declared.filter.Literal.{Literal}
use Rattle.gm_filter.specs.declared.filter.Literal.TheVariants as literal
use Rattle.gm_filter.specs.Comparison.{compares, passes, passes_unordered}
use Rattle.gm_filter.specs.Suitability.{is_literal_of}
use Rattle.gm_bounds.specs.Values.{form_of, literal_form, has_zero, is_zero}
use Rattle.gm_bounds.proofs.InOrder.{Bytes, C}
use Rattle.gm_bounds.proofs.InValues.{AreBytes, IsApart, IsOrdered, same_bytes}

-- what gm_lexi says of the forms
pub record FormLaws : Type 0 where
  pub ints : (a b : ℤ) (s t : Bytes) → FitsSigned w32 a → FitsSigned w32 b
      → slice_cmp nat_cmp (int_bytes a ++ s) (int_bytes b ++ t)
      ≡ ordering_then (int_cmp a b) (slice_cmp nat_cmp s t)
  pub longs : (a b : ℤ) (s t : Bytes) → FitsSigned w64 a → FitsSigned w64 b
      → slice_cmp nat_cmp (long_bytes a ++ s) (long_bytes b ++ t)
      ≡ ordering_then (int_cmp a b) (slice_cmp nat_cmp s t)
  pub texts : (a b s t : Bytes) → HasNoZero a → HasNoZero b
      → slice_cmp nat_cmp (text_bytes a ++ s) (text_bytes b ++ t)
      ≡ ordering_then (slice_cmp nat_cmp a b) (slice_cmp nat_cmp s t)
  pub ints_apart : (a b : ℤ) (s t : Bytes) → FitsSigned w32 a → FitsSigned w32 b
      → int_bytes a ++ s ≡ int_bytes b ++ t → (a ≡ b) × (s ≡ t)
  pub longs_apart : (a b : ℤ) (s t : Bytes) → FitsSigned w64 a → FitsSigned w64 b
      → long_bytes a ++ s ≡ long_bytes b ++ t → (a ≡ b) × (s ≡ t)
  pub texts_apart : (a b s t : Bytes) → HasNoZero a → HasNoZero b
      → text_bytes a ++ s ≡ text_bytes b ++ t → (a ≡ b) × (s ≡ t)

-- ---- bytes are under 256

pub high_first_bytes : (k n : ℕ) → AllByRecursion (λ byte. byte < 256) (bytes_high_first k n)
high_first_bytes zero n = tt
high_first_bytes (suc zero) n = (omega arith, tt)
high_first_bytes (suc (suc k)) n = (omega arith, high_first_bytes (suc k) n)

int_bytes_small : (n : ℤ) → AreBytes (int_bytes n)
unfolding int_bytes
int_bytes_small n =
    All-from_recursion (λ byte. byte < 256) (int_bytes n)
    (high_first_bytes 4 (bit_xor (cast_unsigned w32 n) (2 ^ 31)))

long_bytes_small : (n : ℤ) → AreBytes (long_bytes n)
unfolding long_bytes
long_bytes_small n =
    All-from_recursion (λ byte. byte < 256) (long_bytes n)
    (high_first_bytes 8 (bit_xor (cast_unsigned w64 n) (2 ^ 63)))

scalar_low : (c : ℕ) → scalar c ≡ true → c < 1114112
scalar_low c h = ⊎_elim (λ l. omega (arith, l)) (λ r. r.1) (scalar_cases c h)

many_small : (c : ℕ) → c < 1114112 → (two three : Bool) → (two ≡ true → c < 2048)
    → (three ≡ true → c < 65536)
    → AllByRecursion (λ byte. byte < 256)
    (cond two ((192 + c / 64) ∷ next c ∷ [])
    (cond three ((224 + c / 4096) ∷ next (c / 64) ∷ next c ∷ [])
    ((240 + c / 262144) ∷ next (c / 4096) ∷ next (c / 64) ∷ next c ∷ [])))
many_small c low true three l2 l3 = let short = l2 refl in (omega arith, (omega arith, tt))
many_small c low false true l2 l3 = let short = l3 refl in
    (omega arith, (omega arith, (omega arith, tt)))
many_small c low false false l2 l3 = (omega arith, (omega arith, (omega arith, (omega arith, tt))))

small_where : (c : ℕ) (one : Bool) (more : List ℕ) → (one ≡ true → c < 128)
    → AllByRecursion (λ byte. byte < 256) more
    → AllByRecursion (λ byte. byte < 256) (cond one (c ∷ []) more)
small_where c true more low many = let short = low refl in (omega arith, tt)
small_where c false more low many = many

encode_small : (c : ℕ) → scalar c ≡ true → AllByRecursion (λ byte. byte < 256) (encode c)
unfolding encode
encode_small c h =
    small_where c (ltb c 128) _ (ltb-true c 128)
    (many_small c (scalar_low c h) (ltb c 2048) (ltb c 65536) (ltb-true c 2048)
    (ltb-true c 65536))

encodes_small : (cs : List ℕ) → scalars cs ≡ true → AllByRecursion (λ byte. byte < 256) (encodes cs)
encodes_small [] h = tt
encodes_small (c ∷ cs) h = let parts = and_parts (scalar c) (scalars cs) h in
    all_append (λ byte. byte < 256) (encode c) (encodes cs) (encode_small c parts.0)
    (encodes_small cs parts.1)

utf8_small : (t : Bytes) → IsUtf8 t → AllByRecursion (λ byte. byte < 256) t
utf8_small t u = subst (AllByRecursion (λ byte. byte < 256)) u.1.1 (encodes_small u.0 u.1.0)

pub identifier_small : (id : Bytes) → is_identifier id ≡ true → AreBytes id
identifier_small id h =
    All-from_recursion (λ byte. byte < 256) id
    (utf8_small id
    (IsUtf8-from_is_utf8 id (and_parts (is_utf8 id) (has_identifier_form id) h).0))

pub text_bytes_small : (t : Bytes) → IsUtf8 t → AreBytes (text_bytes t)
text_bytes_small t u =
    All-from_recursion (λ byte. byte < 256) (text_bytes t)
    (all_append (λ byte. byte < 256) t (0 ∷ []) (utf8_small t u) (omega arith, tt))

-- ---- numbers that fit

below_fits32 : (n : ℤ) → is_below (2 ^ 31) n ≡ true → FitsSigned w32 n
below_fits32 (pos n) h = record { sfits = ltb-true n (2 ^ 31) h }
below_fits32 (negsuc n) h = record { sfits = ltb-true n (2 ^ 31) h }

below_fits64 : (n : ℤ) → is_below (2 ^ 63) n ≡ true → FitsSigned w64 n
below_fits64 (pos n) h = record { sfits = ltb-true n (2 ^ 63) h }
below_fits64 (negsuc n) h = record { sfits = ltb-true n (2 ^ 63) h }

-- from the first instant to one millisecond past the last
pub ms_fits64 : (n : ℤ) → neg_ℤ (pos 62_167_219_200_000) ≤ℤ n → n ≤ℤ pos 253_402_300_800_000
    → FitsSigned w64 n
ms_fits64 (pos n) low high = record { sfits = omega (arith, ints, low, high) }
ms_fits64 (negsuc n) low high = record { sfits = omega (arith, ints, low, high) }

pub instant_parts : (n : ℤ) → is_instant n ≡ true
    → (neg_ℤ (pos 62_167_219_200_000) ≤ℤ n) × (n ≤ℤ pos 253_402_300_799_999)
instant_parts n h =
    let parts = and_parts (int_le (neg_ℤ (pos 62_167_219_200_000)) n)
    (int_le n (pos 253_402_300_799_999)) h in
    (omega (arith, ints, parts.0), omega (arith, ints, parts.1))

pub instant_fits64 : (n : ℤ) → is_instant n ≡ true → FitsSigned w64 n
instant_fits64 n h = let parts = instant_parts n h in
    ms_fits64 n parts.0 (omega (arith, ints, parts.1))

-- ---- texts without 0

no_zero_from : (t : Bytes) → has_zero t ≡ false → AllByRecursion (λ byte. 0 < byte) t
no_zero_from [] h = tt
no_zero_from (b ∷ t) h = let parts = or_parts (is_zero b) (has_zero t) h in
    (not_zero b parts.0, no_zero_from t parts.1)
  where
    not_zero : (b : ℕ) → is_zero b ≡ false → 0 < b
    not_zero zero h = absurd (true≢false h)
    not_zero (suc b) h = omega arith

pub has_no_zero : (t : Bytes) → has_zero t ≡ false → HasNoZero t
has_no_zero t h = All-from_recursion (λ byte. 0 < byte) t (no_zero_from t h)

zero_not : (b : ℕ) → is_no_zero b ≡ true → is_zero b ≡ false
zero_not b h = not-true (eqb b 0) h

pub no_zero_in : (t : Bytes) → list_all is_no_zero t ≡ true → has_zero t ≡ false
no_zero_in [] h = refl
no_zero_in (b ∷ t) h = let parts = and_parts (is_no_zero b) (list_all is_no_zero t) h in
    or_false (is_zero b) (has_zero t) (zero_not b parts.0) (no_zero_in t parts.1)
  where
    or_false : (x y : Bool) → x ≡ false → y ≡ false → (x || y) ≡ false
    or_false true y p q = p
    or_false false y p q = q

-- ---- a value and a literal

-- how a value with a form that passes the comparison stands to the literal, whatever follows its
-- form
pub record Formed (op : Op) (v : Value) (form : Bytes) : Type 0 where
  pub z : Bytes
  pub is : form_of v ≡ Some z
  pub bytes : AreBytes z
  pub apart : IsApart z form
  pub order : IsOrdered z form
  pub passed : passes op (C z form) ≡ true

-- the literal has a form to which the value stands so, or none, and is then no equal of the value
abbrev pub Compared : Op → Value → Option Bytes → Type 0
Compared op v None = op ≡ Eq → ⊥
Compared op v (Some form) = Formed op v form

then_equal : (o : Ordering) → ordering_then o Equal ≡ o
then_equal Less = refl
then_equal Equal = refl
then_equal Greater = refl

-- forms that are in the order of the values, none a front of another
formed_by : {A : Type 0} (form : A → Bytes) (cmp : A → A → Ordering) (a b : A) (op : Op) (v : Value)
    → form_of v ≡ Some (form a) → AreBytes (form a)
    → ((s t : Bytes)
    → slice_cmp nat_cmp (form a ++ s) (form b ++ t)
    ≡ ordering_then (cmp a b) (slice_cmp nat_cmp s t))
    → ((s t : Bytes) → form a ++ s ≡ form b ++ t → (a ≡ b) × (s ≡ t))
    → passes op (cmp a b) ≡ true → Formed op v (form b)
formed_by form cmp a b op v is bytes order apart h =
    let same_order : C (form a) (form b) ≡ cmp a b =
    sym (ap (λ xs. C xs (form b)) (append-nil (form a)))
    ∙ sym (ap (C (form a ++ [])) (append-nil (form b))) ∙ order [] []
    ∙ then_equal (cmp a b) in
    record {
      z = form a;
      is = is;
      bytes = bytes;
      apart = λ more rest e. ap (λ x. C (form x) (form b)) (apart more rest e).0
          ∙ tied_itself nat_list_cmp_total (form b);
      order = λ more. sym (ap (C (form a ++ more)) (append-nil (form b))) ∙ order more []
          ∙ ap (λ o. ordering_then o (C more [])) (sym same_order);
      passed = ap (passes op) same_order ∙ h;
    }

text_compared : FormLaws → (t u : Bytes) (op : Op) → IsUtf8 t → list_all is_no_zero t ≡ true
    → passes op (C t u) ≡ true → (b : Bool) → has_zero u ≡ b
    → Compared op (value.Text t) (cond b None (Some (text_bytes u)))
text_compared laws t u op utf8 plain h true has = λ (e : op ≡ Eq).
    let same : t ≡ u = same_bytes t u (ap (λ p. passes p (C t u)) (sym e) ∙ h) in
    true≢false (sym has ∙ ap has_zero (sym same) ∙ no_zero_in t plain)
text_compared laws t u op utf8 plain h false has =
    let one = has_no_zero t (no_zero_in t plain) in
    let two = has_no_zero u has in
    formed_by text_bytes (slice_cmp nat_cmp) t u op (value.Text t) refl (text_bytes_small t utf8)
    (λ a b. laws.texts t u a b one two) (λ a b. laws.texts_apart t u a b one two) h

integer_compared : FormLaws → (m n : ℤ) (op : Op) → is_below (2 ^ 31) m ≡ true
    → passes op (int_cmp m n) ≡ true → (b : Bool) → is_below (2 ^ 31) n ≡ b → b ≡ true
    → Compared op (value.Integer m) (cond b (Some (int_bytes n)) None)
integer_compared laws m n op small h true other e =
    formed_by int_bytes int_cmp m n op (value.Integer m) refl (int_bytes_small m)
    (λ a b. laws.ints m n a b (below_fits32 m small) (below_fits32 n other))
    (λ a b. laws.ints_apart m n a b (below_fits32 m small) (below_fits32 n other)) h
integer_compared laws m n op small h false other e = absurd (true≢false (sym e))

long_formed : FormLaws → (v : Value) (m n : ℤ) (op : Op) → form_of v ≡ Some (long_bytes m)
    → FitsSigned w64 m → FitsSigned w64 n → passes op (int_cmp m n) ≡ true
    → Formed op v (long_bytes n)
long_formed laws v m n op is one two h =
    formed_by long_bytes int_cmp m n op v is (long_bytes_small m)
    (λ a b. laws.longs m n a b one two) (λ a b. laws.longs_apart m n a b one two) h

bool_apart : (c b : Bool) → IsApart (bool_bytes c) (bool_bytes b)
bool_apart true true more rest e = refl
bool_apart false false more rest e = refl
bool_apart true false more rest e = absurd (cc)
bool_apart false true more rest e = absurd (cc)

bool_ordered : (c b : Bool) → IsOrdered (bool_bytes c) (bool_bytes b)
bool_ordered true true more = refl
bool_ordered false false more = refl
bool_ordered true false more = refl
bool_ordered false true more = refl

bool_bytes_small : (c : Bool) → AreBytes (bool_bytes c)
bool_bytes_small true = All-from_recursion (λ byte. byte < 256) (1 ∷ []) (omega arith, tt)
bool_bytes_small false = All-from_recursion (λ byte. byte < 256) (0 ∷ []) (omega arith, tt)

bool_passes : (op : Op) (c b : Bool) → passes_unordered op (is_eq (bool_cmp c b)) ≡ true
    → passes op (C (bool_bytes c) (bool_bytes b)) ≡ true
bool_passes Eq true true h = refl
bool_passes Eq false false h = refl
bool_passes Eq true false h = absurd (true≢false (sym h))
bool_passes Eq false true h = absurd (true≢false (sym h))
bool_passes Ne true true h = absurd (true≢false (sym h))
bool_passes Ne false false h = absurd (true≢false (sym h))
bool_passes Ne true false h = refl
bool_passes Ne false true h = refl
bool_passes Lt c b h = absurd (true≢false (sym h))
bool_passes Le c b h = absurd (true≢false (sym h))
bool_passes Gt c b h = absurd (true≢false (sym h))
bool_passes Ge c b h = absurd (true≢false (sym h))

pub date_formed : FormLaws → (op : Op) (at to : ℤ) → is_instant at ≡ true → FitsSigned w64 to
    → passes op (int_cmp at to) ≡ true → Formed op (value.Date at) (date_bytes to)
date_formed laws op at to one two h =
    long_formed laws (value.Date at) at to op refl (instant_fits64 at one) two h

pub compare_forms : FormLaws → (k : Kind) (v : Value) (op : Op) (l : Literal)
    → value_fits k v ≡ true → is_literal_of k l ≡ true → compares op v l ≡ true
    → Compared op v (literal_form k l)
compare_forms laws kind.Text (value.Text t) op (literal.Text u) f g h =
    let sound = and_parts (is_utf8 t) (has_text_form t) f in
    let form = and_parts (nat_le 1 (length t) && nat_le (length t) 1048576)
    (list_all is_no_zero t) sound.1 in
    text_compared laws t u op (IsUtf8-from_is_utf8 t sound.0) form.1 h (has_zero u) refl
compare_forms laws kind.Integer (value.Integer m) op (literal.Number n) f g h =
    integer_compared laws m n op f h (is_below (2 ^ 31) n) refl g
compare_forms laws kind.Long (value.Long m) op (literal.Number n) f g h =
    long_formed laws (value.Long m) m n op refl (below_fits64 m f) (below_fits64 n g) h
compare_forms laws kind.Boolean (value.Boolean c) op (literal.Truth b) f g h =
    record {
      z = bool_bytes c;
      is = refl;
      bytes = bool_bytes_small c;
      apart = bool_apart c b;
      order = bool_ordered c b;
      passed = bool_passes op c b h;
    }
compare_forms laws kind.Date (value.Date at) op (literal.Date to) f g h =
    date_formed laws op at to f (instant_fits64 to g) h
compare_forms laws _ _ op _ f g h = absurd (cc)
