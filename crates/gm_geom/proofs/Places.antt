-- The places of a rest.
use Rattle.std.proofs.Common.{◌≡◌, ℕ, zero, suc, ◌+◌, ◌-◌, ◌*◌, ◌/◌, ◌%◌, ◌^◌, ◌<◌, ◌≤◌, false}
use Rattle.std.proofs.Common.{◌==◌, List, [], ◌∷◌, ◌++◌, refl, sym, ap, ◌∙◌, arith, append_assoc}
use Rattle.std.proofs.Common.{append-nil}
use Rattle.std.proofs.lemmas.Nat.{div_below}
use Rattle.std.proofs.lemmas.Bool.Decides.{nat_tests}
use Rattle.std.proofs.Math.Nat.{pow-succ'}
use Rattle.gm_geom.specs.Number.{places_of}
use Rattle.gm_geom.proofs.Numbers.{pow_pos}

pub some_test : (r : ℕ) → 0 < r → (r == 0) ≡ false
some_test r some = grind (arith, nat_tests)

places_suc : (n r : ℕ) → 0 < r → places_of (suc n) r ≡ (48 + r / 10 ^ n) ∷ places_of n (r % 10 ^ n)
unfolding places_of
places_suc n r some = rw (some_test r some) refl

-- the next place
pub places_next : (k r : ℕ) → 0 < k → 0 < r
    → places_of k r ≡ (48 + r / 10 ^ (k - 1)) ∷ places_of (k - 1) (r % 10 ^ (k - 1))
places_next k r more some =
    let e : k ≡ suc (k - 1) = omega arith in
    ap (λ n. places_of n r) e ∙ places_suc (k - 1) r some

-- nothing is left
pub places_none : (k : ℕ) → places_of k 0 ≡ []
unfolding places_of
places_none zero = refl
places_none (suc n) = refl

pub places_room : (k r : ℕ) → r < 10 ^ k → 0 < r → 0 < k
places_room zero r small some = absurd (omega arith)
places_room (suc k) r small some = omega arith

pub next_digit : (k r : ℕ) → 0 < k → r < 10 ^ k → r / 10 ^ (k - 1) < 10
next_digit k r more small =
    let e : k ≡ suc (k - 1) = omega arith in
    let q : 10 ^ k ≡ 10 * 10 ^ (k - 1) = ap (λ j. 10 ^ j) e ∙ pow-succ' 10 (k - 1) in
    div_below r (10 ^ (k - 1)) 10 (pow_pos (k - 1)) (omega arith)

pub with_next : (out new : List ℕ) (k r u : ℕ) → 0 < k → 0 < r → u ≡ 10 ^ (k - 1)
    → new ≡ out ++ (48 + r / u) ∷ [] → new ++ places_of (k - 1) (r % u) ≡ out ++ places_of k r
with_next out new k r u more some eu en =
    ap (λ t. t ++ places_of (k - 1) (r % u)) en
    ∙ append_assoc out ((48 + r / u) ∷ []) (places_of (k - 1) (r % u))
    ∙ ap (λ v. out ++ ((48 + r / v) ∷ places_of (k - 1) (r % v))) eu
    ∙ ap (λ t. out ++ t) (sym (places_next k r more some))

pub with_none : (out : List ℕ) (k r : ℕ) → r ≤ 0 → out ++ places_of k r ≡ out
with_none out k r none =
    let e : r ≡ 0 = omega arith in
    ap (λ n. out ++ places_of k n) e ∙ ap (λ t. out ++ t) (places_none k) ∙ append-nil out
