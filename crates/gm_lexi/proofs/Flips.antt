-- Signed numbers with their first bit flipped: their places among all of their width, from the
-- least on.
use Rattle.std.proofs.Common.{◌≡◌, ◌<◌, ◌≤◌, ℕ, suc, ◌+◌, ◌-◌, ◌*◌, ◌^◌, ℤ, pos, negsuc, ◌+ℤ◌, ◌<ℤ◌}
use Rattle.std.proofs.Common.{⊎_elim, lit<, List, ◌++◌, length, drop, slice_index, refl, sym, ap}
use Rattle.std.proofs.Common.{◌∙◌, arith}
use Rattle.std.specs.Prelude.{bit_xor}
use Rattle.std.proofs.lemmas.Bool.{cases_order}
use Rattle.std.proofs.lemmas.Int.{ints, to_z-of_z, of_z-to_z}
use Rattle.std.specs.Ordering.{nat_cmp, int_cmp, ordering_then}
use Rattle.std.specs.Cmp.{nat_cmp_is, int_cmp_is}
use Rattle.std.specs.Cmp.Lexicographic.{slice_cmp}
use Rattle.std.specs.declared.cmp.Ordering.TheVariants.{Less, Equal, Greater}
use lib.Bits.{xor_shifted, xor_comm, xor_assoc, xor_self, xor_zero_r, xor_lt}
use lib.Signed.{mag}
use mir.Val.{SFits, of_z, to_z}
use mir.Syntax.{w32, w64}
use Rattle.byteorder.specs.Endian.{big_bytes, big_from}
use Rattle.byteorder.specs.Numbers.{big_number-reads_back}
use Rattle.gm_calendar.specs.Instant.{IsInstant}
use Rattle.gm_lexi.specs.Lexicode.{int_bytes, long_bytes}
use Rattle.gm_lexi.proofs.Order.{numbers_in_order, no_number_is_a_front, bytes_of_number}

-- the first bit is set where it was not
set_bit : (k n : ℕ) → n < 2 ^ k → bit_xor n (2 ^ k) ≡ n + 2 ^ k
set_bit k n small =
    let once : 1 * 2 ^ k ≡ 2 ^ k = omega arith in
    xor_comm n (2 ^ k) ∙ ap (λ (m : ℕ). bit_xor m n) (sym once) ∙ xor_shifted 1 k n small
    ∙ omega arith

-- and cleared where it was
pub twice : (n m : ℕ) → bit_xor (bit_xor n m) m ≡ n
twice n m = xor_assoc n m m ∙ ap (bit_xor n) (xor_self m) ∙ xor_zero_r n

clear_bit : (k n : ℕ) → n < 2 ^ k → bit_xor (n + 2 ^ k) (2 ^ k) ≡ n
clear_bit k n small = ap (λ (m : ℕ). bit_xor m (2 ^ k)) (sym (set_bit k n small)) ∙ twice n (2 ^ k)

-- the place of a number among those of k + 1 bits, from the least on
pub place : ℕ → ℤ → ℕ
place k (pos n) = n + 2 ^ k
place k (negsuc n) = 2 ^ k - suc n

pub place_is : (k : ℕ) (z : ℤ) → mag z < 2 ^ k → pos (place k z) ≡ z +ℤ pos (2 ^ k)
unfolding place
place_is k (pos n) small = refl
place_is k (negsuc n) small = omega (arith, ints)

pub place_fits : (k : ℕ) (z : ℤ) → mag z < 2 ^ k → place k z < 2 * 2 ^ k
unfolding place
place_fits k (pos n) small = omega arith
place_fits k (negsuc n) small = omega arith

-- two's complement with the first bit flipped is the place
flipped : (k all n m : ℕ) → n < 2 ^ k → all ≡ 2 * 2 ^ k → m ≡ all - suc n
    → bit_xor m (2 ^ k) ≡ 2 ^ k - suc n
flipped k all n m small double is =
    let sum : m ≡ (2 ^ k - suc n) + 2 ^ k = omega arith in
    ap (λ (x : ℕ). bit_xor x (2 ^ k)) sum ∙ clear_bit k (2 ^ k - suc n) (omega arith)

pub flip_int : (z : ℤ) → SFits w32 z → bit_xor (of_z w32 z) (2 ^ 31) ≡ place 31 z
unfolding place
flip_int (pos n) fits = set_bit 31 n fits.sfits
flip_int (negsuc n) fits = flipped 31 (2 ^ 32) n (2 ^ 32 - suc n) fits.sfits refl refl

pub flip_long : (z : ℤ) → SFits w64 z → bit_xor (of_z w64 z) (2 ^ 63) ≡ place 63 z
unfolding place
flip_long (pos n) fits = set_bit 63 n fits.sfits
flip_long (negsuc n) fits = flipped 63 (2 ^ 64) n (2 ^ 64 - suc n) fits.sfits refl refl

-- places are in the order of the numbers
places_in_order : (k : ℕ) (a b : ℤ) → mag a < 2 ^ k → mag b < 2 ^ k
    → nat_cmp (place k a) (place k b) ≡ int_cmp a b
places_in_order k a b fits fits' =
    let at = place_is k a fits in
    let at' = place_is k b fits' in
    ⊎_elim
    (λ same. let is : a ≡ b = omega (arith, ints) in
    sym (nat_cmp_is (place k a) (place k b) Equal same) ∙ int_cmp_is a b Equal is)
    (⊎_elim
    (λ less. let is : a <ℤ b = omega (arith, ints) in
    sym (nat_cmp_is (place k a) (place k b) Less less) ∙ int_cmp_is a b Less is)
    (λ more. let is : b <ℤ a = omega (arith, ints) in
    sym (nat_cmp_is (place k a) (place k b) Greater more) ∙ int_cmp_is a b Greater is))
    (cases_order (place k a) (place k b))

same_place : (k : ℕ) (a b : ℤ) → mag a < 2 ^ k → mag b < 2 ^ k → place k a ≡ place k b → a ≡ b
same_place k a b fits fits' same =
    let at = place_is k a fits in
    let at' = place_is k b fits' in
    omega (arith, ints)

-- ---- the forms
pub int_as_place : (z : ℤ) → SFits w32 z → int_bytes z ≡ big_bytes 4 (place 31 z)
unfolding int_bytes
int_as_place z fits = ap (big_bytes 4) (flip_int z fits)

pub long_as_place : (z : ℤ) → SFits w64 z → long_bytes z ≡ big_bytes 8 (place 63 z)
unfolding long_bytes
long_as_place z fits = ap (big_bytes 8) (flip_long z fits)

-- and so for any number that is as far above the least
pub int_at_place : (z : ℤ) (n : ℕ) → SFits w32 z → pos n ≡ z +ℤ pos (2 ^ 31)
    → int_bytes z ≡ big_bytes 4 n
int_at_place z n fits is =
    let at = place_is 31 z fits.sfits in
    let same : place 31 z ≡ n = omega (arith, ints) in
    int_as_place z fits ∙ ap (big_bytes 4) same

pub long_at_place : (z : ℤ) (n : ℕ) → SFits w64 z → pos n ≡ z +ℤ pos (2 ^ 63)
    → long_bytes z ≡ big_bytes 8 n
long_at_place z n fits is =
    let at = place_is 63 z fits.sfits in
    let same : place 63 z ≡ n = omega (arith, ints) in
    long_as_place z fits ∙ ap (big_bytes 8) same

pub ints_in_order : (a b : ℤ) (s t : List ℕ) → SFits w32 a → SFits w32 b
    → slice_cmp nat_cmp (int_bytes a ++ s) (int_bytes b ++ t)
    ≡ ordering_then (int_cmp a b) (slice_cmp nat_cmp s t)
ints_in_order a b s t fits fits' =
    (λ i. slice_cmp nat_cmp (int_as_place a fits i ++ s) (int_as_place b fits' i ++ t))
    ∙ numbers_in_order 4 (place 31 a) (place 31 b) s t (place_fits 31 a fits.sfits)
    (place_fits 31 b fits'.sfits)
    ∙ ap (λ r. ordering_then r (slice_cmp nat_cmp s t))
    (places_in_order 31 a b fits.sfits fits'.sfits)

pub longs_in_order : (a b : ℤ) (s t : List ℕ) → SFits w64 a → SFits w64 b
    → slice_cmp nat_cmp (long_bytes a ++ s) (long_bytes b ++ t)
    ≡ ordering_then (int_cmp a b) (slice_cmp nat_cmp s t)
longs_in_order a b s t fits fits' =
    (λ i. slice_cmp nat_cmp (long_as_place a fits i ++ s) (long_as_place b fits' i ++ t))
    ∙ numbers_in_order 8 (place 63 a) (place 63 b) s t (place_fits 63 a fits.sfits)
    (place_fits 63 b fits'.sfits)
    ∙ ap (λ r. ordering_then r (slice_cmp nat_cmp s t))
    (places_in_order 63 a b fits.sfits fits'.sfits)

pub no_int_is_a_front : (a b : ℤ) (s t : List ℕ) → SFits w32 a → SFits w32 b
    → int_bytes a ++ s ≡ int_bytes b ++ t → (a ≡ b) × (s ≡ t)
no_int_is_a_front a b s t fits fits' same =
    let parts = no_number_is_a_front 4 (place 31 a) (place 31 b) s t (place_fits 31 a fits.sfits)
    (place_fits 31 b fits'.sfits)
    (ap (λ x. x ++ s) (sym (int_as_place a fits)) ∙ same
    ∙ ap (λ x. x ++ t) (int_as_place b fits')) in
    (same_place 31 a b fits.sfits fits'.sfits parts.0, parts.1)

pub no_long_is_a_front : (a b : ℤ) (s t : List ℕ) → SFits w64 a → SFits w64 b
    → long_bytes a ++ s ≡ long_bytes b ++ t → (a ≡ b) × (s ≡ t)
no_long_is_a_front a b s t fits fits' same =
    let parts = no_number_is_a_front 8 (place 63 a) (place 63 b) s t (place_fits 63 a fits.sfits)
    (place_fits 63 b fits'.sfits)
    (ap (λ x. x ++ s) (sym (long_as_place a fits)) ∙ same
    ∙ ap (λ x. x ++ t) (long_as_place b fits')) in
    (same_place 63 a b fits.sfits fits'.sfits parts.0, parts.1)

-- an instant is a number of 64 bits
pub instant_fits : (at : ℤ) → IsInstant at → SFits w64 at
instant_fits (pos n) is = record { sfits = omega (arith, ints, is.0, is.1) }
instant_fits (negsuc n) is = record { sfits = omega (arith, ints, is.0, is.1) }

-- ---- reading
-- the number whose form these bytes begin with, where n is what they write
pub int_read : (n : ℕ) (z : ℤ) (from : List ℕ) → n < 2 ^ 32 → 4 ≤ length from
    → ((i : ℕ) → slice_index from i < 256) → n ≡ big_from 0 4 from
    → z ≡ to_z w32 (bit_xor n (2 ^ 31)) → from ≡ int_bytes (to_z w32 (of_z w32 z)) ++ drop 4 from
unfolding int_bytes
int_read n z from fits enough small is at =
    let back : of_z w32 z ≡ bit_xor n (2 ^ 31) =
    ap (of_z w32) at
    ∙ of_z-to_z w32 (bit_xor n (2 ^ 31)) (xor_lt 32 n (2 ^ 31) fits (lit< tt)) in
    let number : bit_xor (of_z w32 (to_z w32 (of_z w32 z))) (2 ^ 31) ≡ big_from 0 4 from =
    ap (λ (m : ℕ). bit_xor (of_z w32 (to_z w32 m)) (2 ^ 31)) back
    ∙ ap (λ (m : ℕ). bit_xor m (2 ^ 31))
    (of_z-to_z w32 (bit_xor n (2 ^ 31)) (xor_lt 32 n (2 ^ 31) fits (lit< tt)))
    ∙ twice n (2 ^ 31) ∙ is in
    sym (bytes_of_number 4 from enough small)
    ∙ ap (λ (m : ℕ). big_bytes 4 m ++ drop 4 from) (sym number)

pub int_only : (n : ℕ) (z : ℤ) (from : List ℕ) (value : ℤ) (rest : List ℕ) → n ≡ big_from 0 4 from
    → z ≡ to_z w32 (bit_xor n (2 ^ 31)) → SFits w32 value
    → from ≡ int_bytes value ++ rest → to_z w32 (of_z w32 z) ≡ value
int_only n z from value rest is at fits same =
    let begins : n ≡ place 31 value =
    is ∙ ap (big_from 0 4) (same ∙ ap (λ x. x ++ rest) (int_as_place value fits))
    ∙ big_number-reads_back 4 (place 31 value) rest (place_fits 31 value fits.sfits) in
    let here : z ≡ value =
    at ∙ ap (λ (m : ℕ). to_z w32 (bit_xor m (2 ^ 31))) (begins ∙ sym (flip_int value fits))
    ∙ ap (to_z w32) (twice (of_z w32 value) (2 ^ 31)) ∙ to_z-of_z w32 value fits in
    ap (λ v. to_z w32 (of_z w32 v)) here ∙ to_z-of_z w32 value fits

pub int_is_long : (from : List ℕ) (value : ℤ) (rest : List ℕ) → from ≡ int_bytes value ++ rest
    → 4 ≤ length from
unfolding int_bytes
int_is_long from value rest same = omega (arith, ap length same)

pub long_read : (n : ℕ) (z : ℤ) (from : List ℕ) → n < 2 ^ 64 → 8 ≤ length from
    → ((i : ℕ) → slice_index from i < 256) → n ≡ big_from 0 8 from
    → z ≡ to_z w64 (bit_xor n (2 ^ 63)) → from ≡ long_bytes (to_z w64 (of_z w64 z)) ++ drop 8 from
unfolding long_bytes
long_read n z from fits enough small is at =
    let back : of_z w64 z ≡ bit_xor n (2 ^ 63) =
    ap (of_z w64) at
    ∙ of_z-to_z w64 (bit_xor n (2 ^ 63)) (xor_lt 64 n (2 ^ 63) fits (lit< tt)) in
    let number : bit_xor (of_z w64 (to_z w64 (of_z w64 z))) (2 ^ 63) ≡ big_from 0 8 from =
    ap (λ (m : ℕ). bit_xor (of_z w64 (to_z w64 m)) (2 ^ 63)) back
    ∙ ap (λ (m : ℕ). bit_xor m (2 ^ 63))
    (of_z-to_z w64 (bit_xor n (2 ^ 63)) (xor_lt 64 n (2 ^ 63) fits (lit< tt)))
    ∙ twice n (2 ^ 63) ∙ is in
    sym (bytes_of_number 8 from enough small)
    ∙ ap (λ (m : ℕ). big_bytes 8 m ++ drop 8 from) (sym number)

pub long_only : (n : ℕ) (z : ℤ) (from : List ℕ) (value : ℤ) (rest : List ℕ) → n ≡ big_from 0 8 from
    → z ≡ to_z w64 (bit_xor n (2 ^ 63)) → SFits w64 value
    → from ≡ long_bytes value ++ rest → to_z w64 (of_z w64 z) ≡ value
long_only n z from value rest is at fits same =
    let begins : n ≡ place 63 value =
    is ∙ ap (big_from 0 8) (same ∙ ap (λ x. x ++ rest) (long_as_place value fits))
    ∙ big_number-reads_back 8 (place 63 value) rest (place_fits 63 value fits.sfits) in
    let here : z ≡ value =
    at ∙ ap (λ (m : ℕ). to_z w64 (bit_xor m (2 ^ 63))) (begins ∙ sym (flip_long value fits))
    ∙ ap (to_z w64) (twice (of_z w64 value) (2 ^ 63)) ∙ to_z-of_z w64 value fits in
    ap (λ v. to_z w64 (of_z w64 v)) here ∙ to_z-of_z w64 value fits

pub long_is_long : (from : List ℕ) (value : ℤ) (rest : List ℕ) → from ≡ long_bytes value ++ rest
    → 8 ≤ length from
unfolding long_bytes
long_is_long from value rest same = omega (arith, ap length same)
