-- Numbers of first bytes, and the order of the bytes.
use Rattle.std.proofs.Common.{length, ◌++◌, ◌≡◌, ℕ, zero, suc, ◌*◌, ◌+◌, ◌<◌, ◌≤◌, List, []}
use Rattle.std.proofs.Common.{◌∷◌, refl, sym, ap, subst, ◌∙◌, arith, inl, inr}
use Rattle.std.proofs.lemmas.Bool.{cases_order}
use Rattle.std.proofs.lemmas.Cmp.{nat_cmp_total}
use Rattle.std.specs.Cmp.{tied_itself}
use Rattle.std.specs.Ordering.{nat_cmp, ordering_then}
use Rattle.std.specs.Cmp.Lexicographic.{slice_cmp}
use Rattle.std.specs.declared.cmp.Ordering.TheVariants.{Less, Equal, Greater}
use Rattle.gm_base.proofs.Numbers.{is_less}
use Rattle.gm_base.specs.Front.{first_of, rest_of, front_after, AreBytes, IsFront}

-- of two numbers the smaller stays so, whatever bytes follow
pub front-rises : (n : ℕ) (a b : ℕ) (xs ys : List ℕ) → AreBytes n xs → a < b
    → front_after a n xs < front_after b n ys
front-rises zero a b xs ys bytes below = below
front-rises (suc n) a b xs ys bytes below =
    front-rises n (a * 256 + first_of xs) (b * 256 + first_of ys) (rest_of xs) (rest_of ys) bytes.1
    (omega (arith, bytes.0, below))

equal_or_less : Equal ≡ Less → ⊥
equal_or_less e = cc

greater_or_less : Greater ≡ Less → ⊥
greater_or_less e = cc

never_less : (xs : List ℕ) {A : Type 0} → slice_cmp nat_cmp xs [] ≡ Less → A
never_less [] e = absurd (equal_or_less e)
never_less (x ∷ xs) e = absurd (greater_or_less e)

pub front-less : (n a : ℕ) (xs ys : List ℕ) → AreBytes n xs → AreBytes n ys
    → front_after a n xs < front_after a n ys → slice_cmp nat_cmp xs ys ≡ Less
front-less zero a xs ys bytes bytes' below = absurd (omega (arith, below))
front-less (suc n) a [] [] bytes bytes' below =
    front-less n (a * 256 + 0) [] [] bytes.1 bytes'.1 below
front-less (suc n) a [] (y ∷ ys) bytes bytes' below = refl
front-less (suc n) a (x ∷ xs) [] bytes bytes' below =
    elim (cases_order x 0) as (λ _. Greater ≡ Less) [
      | inl same ↦ never_less xs
          (front-less n (a * 256 + 0) xs [] bytes.1 bytes'.1
          (subst (λ z. front_after (a * 256 + z) n xs < front_after (a * 256 + 0) n []) same below))
      | inr apart ↦ elim apart as (λ _. Greater ≡ Less) [
        | inl less ↦ absurd (omega (arith, less))
        | inr more ↦ let rises =
            front-rises n (a * 256 + 0) (a * 256 + x) [] xs bytes'.1 (omega (arith, more)) in
            absurd (omega (arith, rises, below))
      ]
    ]
front-less (suc n) a (x ∷ xs) (y ∷ ys) bytes bytes' below =
    elim (cases_order x y) as (λ _. ordering_then (nat_cmp x y) (slice_cmp nat_cmp xs ys) ≡ Less) [
      | inl same ↦ ap (λ o. ordering_then o (slice_cmp nat_cmp xs ys))
          (subst (λ z. nat_cmp x z ≡ Equal) same (tied_itself nat_cmp_total x))
          ∙ front-less n (a * 256 + x) xs ys bytes.1 bytes'.1
          (subst (λ z. front_after (a * 256 + x) n xs < front_after (a * 256 + z) n ys)
          (sym same) below)
      | inr apart ↦ elim apart as
          (λ _. ordering_then (nat_cmp x y) (slice_cmp nat_cmp xs ys) ≡ Less) [
            | inl less ↦ ap (λ o. ordering_then o (slice_cmp nat_cmp xs ys)) (is_less x y less)
            | inr more ↦ let rises =
                front-rises n (a * 256 + y) (a * 256 + x) ys xs bytes'.1 (omega (arith, more)) in
                absurd (omega (arith, rises, below))
          ]
    ]

-- bytes behind the first n change nothing
pub front-append : (n number : ℕ) (xs ys : List ℕ) → n ≤ length xs
    → front_after number n (xs ++ ys) ≡ front_after number n xs
front-append zero number xs ys enough = refl
front-append (suc n) number [] ys enough = absurd (omega arith)
front-append (suc n) number (x ∷ xs) ys enough =
    front-append n (number * 256 + x) xs ys (omega arith)

pub bytes-append : (n : ℕ) (xs ys : List ℕ) → n ≤ length xs → AreBytes n xs → AreBytes n (xs ++ ys)
bytes-append zero xs ys enough are = tt
bytes-append (suc n) [] ys enough are = absurd (omega arith)
bytes-append (suc n) (x ∷ xs) ys enough are = (are.0, bytes-append n xs ys (omega arith) are.1)

pub IsFront-append : (number : ℕ) (xs ys : List ℕ) → 16 ≤ length xs → IsFront number xs
    → IsFront number (xs ++ ys)
IsFront-append number xs ys enough is = record {
  front = is.front ∙ sym (front-append 16 0 xs ys enough);
  are_bytes = bytes-append 16 xs ys enough is.are_bytes;
}

-- numbers of first bytes in order
pub order-of_fronts : (m n : ℕ) (xs ys : List ℕ) → IsFront m xs → IsFront n ys → m < n
    → slice_cmp nat_cmp xs ys ≡ Less
order-of_fronts m n xs ys one other below =
    front-less 16 0 xs ys one.are_bytes other.are_bytes
    (omega (arith, below, one.front, other.front))
