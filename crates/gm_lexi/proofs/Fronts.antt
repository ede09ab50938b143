-- Texts that end with 0, and truths.
use Rattle.std.proofs.Common.{◌≡◌, ◌<◌, ℕ, List, [], ◌∷◌, ◌++◌, refl, sym, ap}
use Rattle.std.proofs.Common.{◌∙◌, arith, append_assoc}
use Rattle.std.proofs.lemmas.List.Elements.{recursion_from_All}
use Rattle.std.specs.List.{AllByRecursion}
use Rattle.std.specs.Ordering.{nat_cmp, ordering_then}
use Rattle.std.specs.Cmp.{nat_cmp_total, nat_cmp_is, tied_itself}
use Rattle.std.specs.Cmp.Lexicographic.{slice_cmp}
use Rattle.std.specs.declared.cmp.Ordering.{Ordering}
use Rattle.std.specs.declared.cmp.Ordering.TheVariants.{Less, Equal, Greater}
use Rattle.gm_lexi.specs.Lexicode.{text_bytes, HasNoZero}

abbrev EachIsSome : List ℕ → Type 0
EachIsSome text = AllByRecursion (λ byte. 0 < byte) text

-- a byte 0 stands below every byte of a text
ended : (a b s t : List ℕ) → EachIsSome a → EachIsSome b
    → slice_cmp nat_cmp (a ++ 0 ∷ s) (b ++ 0 ∷ t)
    ≡ ordering_then (slice_cmp nat_cmp a b) (slice_cmp nat_cmp s t)
ended [] [] s t some some' =
    ap (λ r. ordering_then r (slice_cmp nat_cmp s t)) (tied_itself nat_cmp_total 0)
ended [] (y ∷ b) s t some some' =
    ap (λ r. ordering_then r (slice_cmp nat_cmp s (b ++ 0 ∷ t))) (sym (nat_cmp_is 0 y Less some'.0))
ended (x ∷ a) [] s t some some' =
    ap (λ r. ordering_then r (slice_cmp nat_cmp (a ++ 0 ∷ s) t))
    (sym (nat_cmp_is x 0 Greater some.0))
ended (x ∷ a) (y ∷ b) s t some some' =
    ap (ordering_then (nat_cmp x y)) (ended a b s t some.1 some'.1)
    ∙ chain (nat_cmp x y) (slice_cmp nat_cmp a b) (slice_cmp nat_cmp s t)
  where
    chain : (p q r : Ordering)
        → ordering_then p (ordering_then q r) ≡ ordering_then (ordering_then p q) r
    chain Less q r = refl
    chain Equal q r = refl
    chain Greater q r = refl

pub texts_in_order : (a b s t : List ℕ) → HasNoZero a → HasNoZero b
    → slice_cmp nat_cmp (text_bytes a ++ s) (text_bytes b ++ t)
    ≡ ordering_then (slice_cmp nat_cmp a b) (slice_cmp nat_cmp s t)
texts_in_order a b s t some some' =
    (λ i. slice_cmp nat_cmp (append_assoc a (0 ∷ []) s i) (append_assoc b (0 ∷ []) t i))
    ∙ ended a b s t (recursion_from_All (λ byte. 0 < byte) a some)
    (recursion_from_All (λ byte. 0 < byte) b some')

-- what stands before the first 0 is the text
cut : (a b s t : List ℕ) → EachIsSome a → EachIsSome b → a ++ 0 ∷ s ≡ b ++ 0 ∷ t → (a ≡ b) × (s ≡ t)
cut [] [] s t some some' same = (refl, cc)
cut [] (y ∷ b) s t some some' same = let is : ◌≡◌ {A = ℕ} 0 y = cc in
    absurd (omega (arith, some'.0))
cut (x ∷ a) [] s t some some' same = let is : ◌≡◌ {A = ℕ} x 0 = cc in absurd (omega (arith, some.0))
cut (x ∷ a) (y ∷ b) s t some some' same =
    let first : x ≡ y = cc in
    let later : a ++ 0 ∷ s ≡ b ++ 0 ∷ t = cc in
    let rest = cut a b s t some.1 some'.1 later in
    (λ i. first i ∷ rest.0 i, rest.1)

pub no_text_is_a_front : (a b s t : List ℕ) → HasNoZero a → HasNoZero b
    → text_bytes a ++ s ≡ text_bytes b ++ t → (a ≡ b) × (s ≡ t)
no_text_is_a_front a b s t some some' same =
    cut a b s t (recursion_from_All (λ byte. 0 < byte) a some)
    (recursion_from_All (λ byte. 0 < byte) b some')
    (sym (append_assoc a (0 ∷ []) s) ∙ same ∙ append_assoc b (0 ∷ []) t)
