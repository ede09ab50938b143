-- Lemmas on truths and tests that proofs of several crates need.
use Rattle.std.proofs.Common.{◌≡◌, ◌⊎◌, inl, inr, Bool, true, false, not, ◌&&◌, ◌||◌, List, [], ◌∷◌}
use Rattle.std.proofs.Common.{length, refl, sym, ◌∙◌, arith}
use Rattle.std.proofs.lemmas.Bool.{both_ways, false_from_ne_true}
use Rattle.std.specs.Prelude.{T}

-- the parts of a fact that two tests passed
pub both_of-T : (a b : Bool) → T (a && b) → (T a) × (T b)
both_of-T true b passed = (tt, passed)
both_of-T false b passed = absurd passed

pub both_from-T : (a b : Bool) → T a → T b → T (a && b)
both_from-T true b one other = other
both_from-T false b one other = absurd one

-- two tests of which none passed
pub neither_of : (a b : Bool) → (a || b) ≡ false → (a ≡ false) × (b ≡ false)
neither_of true b failed = cc
neither_of false b failed = (refl, failed)

pub and_false : (a : Bool) → (a && false) ≡ false
and_false true = refl
and_false false = refl

pub and_true : (a : Bool) → (a && true) ≡ a
and_true true = refl
and_true false = refl

pub or_true : (a : Bool) → (a || true) ≡ true
or_true true = refl
or_true false = refl

pub or_false : (a : Bool) → a ≡ (a || false)
or_false true = refl
or_false false = refl

pub false_of_not : (a : Bool) → not a ≡ true → a ≡ false
false_of_not true is = cc
false_of_not false is = refl

pub true_of_not : (a : Bool) → not a ≡ false → a ≡ true
true_of_not true is = refl
true_of_not false is = cc

-- a test that never passes fails
pub false_of_never : (a : Bool) → (a ≡ true → ⊥) → a ≡ false
false_of_never true never = absurd (never refl)
false_of_never false never = refl

pub true_or_false : (a : Bool) → (a ≡ true) ⊎ (a ≡ false)
true_or_false true = inl refl
true_or_false false = inr refl

-- no test passes and fails
pub not_both : {P : Type 0} (a : Bool) → a ≡ true → a ≡ false → P
not_both a passed failed = let e : true ≡ false = sym passed ∙ failed in absurd (cc)

-- two tests of which each passes where the other does
pub same_tests : (a b : Bool) → (a ≡ true → b ≡ true) → (b ≡ true → a ≡ true) → a ≡ b
same_tests true b there back = sym (there refl)
same_tests false true there back = back refl
same_tests false false there back = refl

-- what was seen of a test that failed is what a further one gives that passes only where it does
pub fails_with : (a b seen : Bool) → (b ≡ true → a ≡ true) → seen ≡ a → seen ≡ false → seen ≡ b
fails_with a b seen only is failed =
    failed ∙ sym (false_from_ne_true b (λ passed. both_ways a (sym is ∙ failed) (only passed)))

pub no_length : {A : Type 0} (xs : List A) → length xs ≡ 0 → xs ≡ []
no_length [] none = refl
no_length (x ∷ xs) none = absurd (omega arith)
