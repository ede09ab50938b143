-- What holds of each element of a list, and an element that passes a test.
use Rattle.std.proofs.Common.{◌≡◌, Bool, true, false, ◌||◌, List, [], ◌∷◌, ◌++◌, refl, sym, ◌∙◌}
use Rattle.std.specs.List.{list_any, AllByRecursion, count_by}
use Rattle.gm_shapes.specs.Polygon.{is_odd}
use Rattle.gm_shapes.proofs.Walks.{xor, odd_count-cons}

pub all_front : {X : Type 0} (P : X → Type 0) (xs ys : List X) → AllByRecursion P (xs ++ ys)
    → AllByRecursion P xs
all_front P [] ys all = tt
all_front P (x ∷ xs) ys all = (all.0, all_front P xs ys all.1)

pub all_back : {X : Type 0} (P : X → Type 0) (xs ys : List X) → AllByRecursion P (xs ++ ys)
    → AllByRecursion P ys
all_back P [] ys all = all
all_back P (x ∷ xs) ys all = all_back P xs ys all.1

pub all_map : {X : Type 0} (P Q : X → Type 0) (xs : List X) → ((x : X) → P x → Q x)
    → AllByRecursion P xs → AllByRecursion Q xs
all_map P Q [] f all = tt
all_map P Q (x ∷ xs) f all = (f x all.0, all_map P Q xs f all.1)

pub all_both : {X : Type 0} (P Q : X → Type 0) (xs : List X) → AllByRecursion P xs
    → AllByRecursion Q xs → AllByRecursion (λ x. P x × Q x) xs
all_both P Q [] these those = tt
all_both P Q (x ∷ xs) these those = ((these.0, those.0), all_both P Q xs these.1 those.1)

-- an element that passes, with what holds of each
abbrev pub Passing : {X : Type 0} → (X → Bool) → (X → Type 0) → Type 0
Passing {X} test P = (x : X) × (test x ≡ true) × P x

found_first : {X : Type 0} (test : X → Bool) (P : X → Type 0) (x : X) (b later : Bool) → test x ≡ b
    → (b || later) ≡ true → P x → (later ≡ true → Passing test P) → Passing test P
found_first test P x true later at e here rest = (x, at, here)
found_first test P x false later at e here rest = rest e

pub found : {X : Type 0} (test : X → Bool) (P : X → Type 0) (xs : List X) → list_any test xs ≡ true
    → AllByRecursion P xs → Passing test P
found test P [] e all = absurd (cc)
found test P (x ∷ xs) e all =
    found_first test P x (test x) (list_any test xs) refl e all.0
    (λ later. found test P xs later all.1)

odd_first : (b odd later : Bool) → xor b odd ≡ true → (odd ≡ true → later ≡ true)
    → (b || later) ≡ true
odd_first true odd later e rest = refl
odd_first false odd later e rest = rest e

-- of an odd number there is one
pub odd_found : {X : Type 0} (test : X → Bool) (xs : List X) → is_odd (count_by test xs) ≡ true
    → list_any test xs ≡ true
odd_found test [] e = absurd (cc)
odd_found test (x ∷ xs) e =
    odd_first (test x) (is_odd (count_by test xs)) (list_any test xs)
    (sym (odd_count-cons test x xs) ∙ e) (odd_found test xs)
