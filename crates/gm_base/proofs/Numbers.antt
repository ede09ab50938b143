-- Lemmas on numbers and their comparisons that proofs of several crates need.
use Rattle.std.proofs.Common.{◌≡◌, ◌≢◌, ◌<◌, ◌≤◌, ℕ, zero, suc, ◌+◌, ◌*◌, ◌^◌, true, false, ◌==◌}
use Rattle.std.proofs.Common.{nat_eq, nat_le, ℤ, List, [], ◌∷◌, All, refl, sym, arith, pow-suc}
use Rattle.std.proofs.lemmas.Bool.{eq-eqb}
use Rattle.std.proofs.lemmas.Bool.Decides.{nat_tests}
use Rattle.std.proofs.lemmas.Int.{ints}
use Rattle.std.proofs.lemmas.Nat.{pow-add}
use Rattle.std.proofs.Math.Nat.{pow-le-pow_right}
use Rattle.std.specs.Prelude.{int_le, ◌≤ℤ◌}
use Rattle.std.specs.Char.{is_ascii_digit}
use Rattle.std.specs.Cmp.{nat_cmp_is}
use Rattle.std.specs.Cmp.Lexicographic.{slice_cmp}
use Rattle.std.specs.Ordering.{nat_cmp, is_le, is_lt, is_gt}
use Rattle.std.specs.declared.cmp.Ordering.{Ordering}
use Rattle.std.specs.declared.cmp.Ordering.TheVariants.{Less, Equal, Greater}

pub le_from : (m n : ℤ) → int_le m n ≡ true → m ≤ℤ n
le_from m n passed = omega (arith, ints, passed)

pub le_to : (m n : ℤ) → m ≤ℤ n → int_le m n ≡ true
le_to m n below = sym (omega (arith, ints, below))

pub le_true : (a b : ℕ) → a ≤ b → nat_le a b ≡ true
le_true a b below = grind (arith, nat_tests)

pub le_false : (a b : ℕ) → b < a → nat_le a b ≡ false
le_false a b above = grind (arith, nat_tests)

pub eq_true : (a : ℕ) → (a == a) ≡ true
eq_true a = eq-eqb a a refl

pub eq_false : (a b : ℕ) → (a ≡ b → ⊥) → (a == b) ≡ false
eq_false a b apart = grind (arith, nat_tests)

pub is_less : (a b : ℕ) → a < b → nat_cmp a b ≡ Less
is_less a b less = sym (nat_cmp_is a b Less less)

pub is_equal : (a b : ℕ) → a ≡ b → nat_cmp a b ≡ Equal
is_equal a b same = sym (nat_cmp_is a b Equal same)

pub is_greater : (a b : ℕ) → b < a → nat_cmp a b ≡ Greater
is_greater a b more = sym (nat_cmp_is a b Greater more)

pub less_of : (o : Ordering) → is_lt o ≡ true → o ≡ Less
less_of Less is = refl
less_of Equal is = cc
less_of Greater is = cc

pub lt_is_le : (o : Ordering) → is_lt o ≡ true → is_le o ≡ true
lt_is_le Less is = refl
lt_is_le Equal is = cc
lt_is_le Greater is = cc

pub le_of_not_gt : (o : Ordering) → is_gt o ≡ false → is_le o ≡ true
le_of_not_gt Less is = refl
le_of_not_gt Equal is = refl
le_of_not_gt Greater is = cc

-- nothing comes before no byte
pub none_is_least : (bytes : List ℕ) → is_le (slice_cmp nat_cmp [] bytes) ≡ true
none_is_least [] = refl
none_is_least (byte ∷ bytes) = refl

pub digit_of : (n : ℕ) → n < 10 → is_ascii_digit (48 + n) ≡ true
digit_of n few = grind (arith, nat_tests)

pub no_plus : (byte : ℕ) → is_ascii_digit byte ≡ true → (byte == 43) ≡ false
no_plus byte digit = grind (arith, nat_tests)

pub not_full : (byte : ℕ) → byte ≢ 255 → nat_eq byte 255 ≡ false
not_full byte apart = grind (arith, nat_tests)

pub two_at_least : (n : ℕ) → 1 ≤ n → 2 ≤ 2 ^ n
two_at_least n some = let most : 2 ^ 1 ≤ 2 ^ n = pow-le-pow_right (omega arith) some in
    omega (arith, most)

pub pow256 : (k : ℕ) → 256 ^ k ≡ 2 ^ (8 * k)
pow256 zero = refl
pow256 (suc k) =
    let eight : 8 * suc k ≡ 8 * k + 8 = omega arith in
    rw (pow-suc 256 k, pow256 k, eight, pow-add 2 (8 * k) 8) refl

pub two_below : (m a b : ℕ) → a < m → b < m → All (λ x. x < m) (a ∷ b ∷ [])
two_below m a b first second zero d within = first
two_below m a b first second (suc zero) d within = second
two_below m a b first second (suc (suc k)) d within = absurd (omega arith)

pub three_below : (m a b c : ℕ) → a < m → b < m → c < m → All (λ x. x < m) (a ∷ b ∷ c ∷ [])
three_below m a b c first second third zero d within = first
three_below m a b c first second third (suc zero) d within = second
three_below m a b c first second third (suc (suc zero)) d within = third
three_below m a b c first second third (suc (suc (suc k))) d within = absurd (omega arith)
