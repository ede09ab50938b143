-- Tests of the elements of a list, of a filtered list and of lists joined end to end.
use Rattle.std.proofs.Common.{◌≡◌, ℕ, zero, suc, ◌+◌, Bool, true, false, ◌||◌, not, cond, List, []}
use Rattle.std.proofs.Common.{◌∷◌, refl, sym, ap, ◌∙◌, arith}
use mathlib.Core.Bool.{beq}
use Rattle.std.specs.Prelude.{filter}
use Rattle.std.specs.List.{list_any, count_by, AllByRecursion}
use Rattle.std.proofs.lemmas.Bool.{or_left, or_right}
use Rattle.std.proofs.lemmas.List.Sums.{sum_by-append}
use Rattle.gm_shapes.specs.Polygon.{is_odd}
use Rattle.gm_prepared.specs.Area.{differs}

pub unequal_is : (a b : Bool) → not (beq a b) ≡ differs a b
unequal_is true true = refl
unequal_is true false = refl
unequal_is false true = refl
unequal_is false false = refl

differs_not : (a b : Bool) → differs (not a) b ≡ not (differs a b)
differs_not true true = refl
differs_not true false = refl
differs_not false b = refl

pub differs_assoc : (a b c : Bool) → differs (differs a b) c ≡ differs a (differs b c)
differs_assoc true b c = differs_not b c
differs_assoc false b c = refl

is_odd-add : (m n : ℕ) → is_odd (m + n) ≡ differs (is_odd m) (is_odd n)
is_odd-add zero n = let e : zero + n ≡ n = omega arith in ap is_odd e
is_odd-add (suc m) n = let e : suc m + n ≡ suc (m + n) = omega arith in
    ap is_odd e ∙ ap not (is_odd-add m n) ∙ sym (differs_not (is_odd m) (is_odd n))

odd_one : (b : Bool) → is_odd (0 + cond b 1 0) ≡ b
odd_one true = refl
odd_one false = refl

-- the count of a list that begins with x
pub odd_count-cons : {X : Type 0} (test : X → Bool) (x : X) (xs : List X)
    → is_odd (count_by test (x ∷ xs)) ≡ differs (test x) (is_odd (count_by test xs))
odd_count-cons test x xs =
    ap is_odd (sum_by-append (λ y. cond (test y) 1 0) (x ∷ []) xs)
    ∙ is_odd-add (count_by test (x ∷ [])) (count_by test xs)
    ∙ ap (λ b. differs b (is_odd (count_by test xs))) (odd_one (test x))

kept_any : (here kept all : Bool) → (kept ≡ true → all ≡ true) → (here || kept) ≡ true
    → (here || all) ≡ true
kept_any true kept all more e = refl
kept_any false kept all more e = more e

-- what passes among some of the elements passes among all
cond_any : {X : Type 0} (test : X → Bool) (b : Bool) (x : X) (kept xs : List X)
    → (list_any test kept ≡ true → list_any test xs ≡ true)
    → list_any test (cond b (x ∷ kept) kept) ≡ true → list_any test (x ∷ xs) ≡ true
cond_any test true x kept xs more e =
    kept_any (test x) (list_any test kept) (list_any test xs) more e
cond_any test false x kept xs more e = or_right (test x) (list_any test xs) (more e)

pub any_of_filter : {X : Type 0} (test keep : X → Bool) (xs : List X)
    → list_any test (filter keep xs) ≡ true → list_any test xs ≡ true
any_of_filter test keep [] e = e
any_of_filter test keep (x ∷ xs) e =
    cond_any test (keep x) x (filter keep xs) xs (any_of_filter test keep xs) e

-- an element that passes is in one of the filtered lists, where each that passes is
pub record Filtered {X : Type 0} (test : X → Bool) (keep : ℕ → X → Bool) (InRange : ℕ → Type 0)
    (xs : List X) : Type 0 where
  pub at : ℕ
  pub in_range : InRange at
  pub found : list_any test (filter (keep at) xs) ≡ true

kept_first : {X : Type 0} (test keep : X → Bool) (x : X) (xs : List X) → keep x ≡ true
    → test x ≡ true → list_any test (filter keep (x ∷ xs)) ≡ true
kept_first test keep x xs k e = rw k (or_left (test x) (list_any test (filter keep xs)) e)

kept_later : {X : Type 0} (test keep : X → Bool) (x : X) (xs : List X) (b : Bool) → keep x ≡ b
    → list_any test (filter keep xs) ≡ true → list_any test (filter keep (x ∷ xs)) ≡ true
kept_later test keep x xs true k e = rw k (or_right (test x) (list_any test (filter keep xs)) e)
kept_later test keep x xs false k e = rw k e

in_some : {X : Type 0} (test : X → Bool) (keep : ℕ → X → Bool) (InRange : ℕ → Type 0)
    (P : X → Type 0) (x : X) (xs : List X) (b : Bool) → test x ≡ b
    → ((y : X) → P y → test y ≡ true → (j : ℕ) × InRange j × (keep j y ≡ true)) → P x
    → (b || list_any test xs) ≡ true → (list_any test xs ≡ true → Filtered test keep InRange xs)
    → Filtered test keep InRange (x ∷ xs)
in_some test keep InRange P x xs true is each here e later =
    let at : (j : ℕ) × InRange j × (keep j x ≡ true) = each x here is in
    record { at = at.0; in_range = at.1; found = kept_first test (keep at.0) x xs at.2 is }
in_some test keep InRange P x xs false is each here e later =
    let at : Filtered test keep InRange xs = later e in
    record {
      at = at.at;
      in_range = at.in_range;
      found = kept_later test (keep at.at) x xs (keep at.at x) refl at.found;
    }

pub any_filtered : {X : Type 0} (test : X → Bool) (keep : ℕ → X → Bool) (InRange : ℕ → Type 0)
    (P : X → Type 0) (xs : List X)
    → ((y : X) → P y → test y ≡ true → (j : ℕ) × InRange j × (keep j y ≡ true))
    → AllByRecursion P xs → list_any test xs ≡ true → Filtered test keep InRange xs
any_filtered test keep InRange P [] each all e = absurd (cc)
any_filtered test keep InRange P (x ∷ xs) each all e =
    in_some test keep InRange P x xs (test x) refl each all.0 e
    (any_filtered test keep InRange P xs each all.1)
