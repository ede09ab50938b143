-- Lists of slices, seen as lists of lists.
use Rattle.std.proofs.Common.{◌≡◌, ◌∙◌, ◌+◌, ◌++◌, ◌∷◌, [], ℕ, zero, suc, List, Some, None, map}
use Rattle.std.proofs.Common.{take, refl, sym, ap, add-one}
use Rattle.std.specs.Borrow.{Bor}
use Rattle.std.proofs.lemmas.List.{map-append}
use Rattle.csv.specs.Records.{field_at}

abbrev pub seen : List (Bor (List ℕ)) → List (List ℕ)
seen slices = map (λ (f : Bor (List ℕ)). f.now) slices

pub seen-push : (before after : List (Bor (List ℕ))) (x : Bor (List ℕ)) → after ≡ before ++ x ∷ []
    → seen after ≡ seen before ++ x.now ∷ []
seen-push before after x e = ap seen e ∙ map-append (λ (f : Bor (List ℕ)). f.now) before (x ∷ [])

-- the fields up to one, and all where there is none
pub taken_more : (fields : List (List ℕ)) (i : ℕ) (f : List ℕ) → Some f ≡ field_at fields i
    → take (suc i) fields ≡ take i fields ++ f ∷ []
unfolding field_at
taken_more [] i f e = absurd (cc)
taken_more (x ∷ xs) zero f e = let same : f ≡ x = cc in ap (λ y. y ∷ []) (sym same)
taken_more (x ∷ xs) (suc i) f e = ap (λ l. x ∷ l) (taken_more xs i f e)

pub taken_all : (fields : List (List ℕ)) (i : ℕ) → None ≡ field_at fields i → take i fields ≡ fields
unfolding field_at
taken_all [] zero e = refl
taken_all [] (suc i) e = refl
taken_all (x ∷ xs) zero e = absurd (cc)
taken_all (x ∷ xs) (suc i) e = ap (λ l. x ∷ l) (taken_all xs i e)

pub next_field : (fields : List (List ℕ)) (before after : List (Bor (List ℕ))) (x : Bor (List ℕ))
    (i : ℕ) → seen before ≡ take i fields
    → Some x.now ≡ field_at fields i → after ≡ before ++ x ∷ [] → seen after ≡ take (i + 1) fields
next_field fields before after x i so_far is added =
    seen-push before after x added ∙ ap (λ l. l ++ x.now ∷ []) so_far
    ∙ sym (taken_more fields i x.now is) ∙ ap (λ n. take n fields) (sym (add-one i))
