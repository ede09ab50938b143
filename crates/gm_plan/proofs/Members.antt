-- Members of lists of bins: where they stand, and the first and the last.
use Rattle.std.proofs.Common.{◌≡◌, ℕ, zero, suc, ◌+◌, ◌-◌, ◌<◌, ◌≤◌, Bool, true, false, ◌||◌, cond}
use Rattle.std.proofs.Common.{List, [], ◌∷◌, ◌++◌, length, map, filter, sym, ap, ◌∙◌}
use Rattle.std.proofs.Common.{true≢false, ◌⊎◌, inl, inr, arith, subst}
use Rattle.std.proofs.lemmas.Bool.{or_left, or_right, or_cases}
use Rattle.std.proofs.lemmas.List.Folds.{list_any-append}
use Rattle.std.specs.Prelude.{slice_index}
use Rattle.std.specs.List.{list_any, flat_map, range_with_len, AllByRecursion}
use Rattle.gm_plan.proofs.Times.{filter_split, skip}

-- where one of the first list passes, something of the second does
pub any_kept : {X Y : Type 0} (test keep : X → Bool) (q : Y → Bool) (f : X → Y)
    → ((x : X) → test x ≡ true → (keep x ≡ true) × (q (f x) ≡ true)) → (xs : List X)
    → list_any test xs ≡ true
    → list_any q (map f (filter keep xs)) ≡ true
any_kept {X} test keep q f tells [] h = h
any_kept {X} test keep q f tells (x ∷ xs) h =
    by (or_cases (test x) (list_any test xs) h) (λ there. any_kept test keep q f tells xs there)
  where
    taken : (b : Bool) → list_any q (map f (filter keep xs)) ≡ true
        → list_any q (map f (cond b (x ∷ filter keep xs) (filter keep xs))) ≡ true
    taken true k = or_right (q (f x)) _ k
    taken false k = k

    first : (b : Bool) → b ≡ true → q (f x) ≡ true
        → list_any q (map f (cond b (x ∷ filter keep xs) (filter keep xs))) ≡ true
    first true e k = or_left _ (list_any q (map f (filter keep xs))) k
    first false e k = absurd (true≢false (sym e))

    by : (test x ≡ true) ⊎ (list_any test xs ≡ true)
        → (list_any test xs ≡ true → list_any q (map f (filter keep xs)) ≡ true)
        → list_any q (map f (filter keep (x ∷ xs))) ≡ true
    by (inl here) rec = let t = tells x here in first (keep x) t.0 t.1
    by (inr there) rec = taken (keep x) (rec there)

pub any_in_flat : {X Y : Type 0} (test : X → Bool) (q : Y → Bool) (g : X → List Y)
    → ((x : X) → test x ≡ true → list_any q (g x) ≡ true) → (xs : List X) → list_any test xs ≡ true
    → list_any q (flat_map g xs) ≡ true
any_in_flat {X} test q g tells [] h = h
any_in_flat {X} test q g tells (x ∷ xs) h =
    list_any-append q (g x) (flat_map g xs)
    ∙ by (or_cases (test x) (list_any test xs) h) (λ there. any_in_flat test q g tells xs there)
  where
    by : (test x ≡ true) ⊎ (list_any test xs ≡ true)
        → (list_any test xs ≡ true → list_any q (flat_map g xs) ≡ true)
        → (list_any q (g x) || list_any q (flat_map g xs)) ≡ true
    by (inl here) rec = or_left _ _ (tells x here)
    by (inr there) rec = or_right _ _ (rec there)

-- ---- a number that passes stands among those that do
pub stands : (test : ℕ → Bool) (n total : ℕ) → n < total → test n ≡ true
    → filter test (range_with_len 0 total)
    ≡ filter test (range_with_len 0 n)
    ++ (n ∷ filter test (range_with_len (n + 1) (total - n - 1)))
stands test n total less e =
    let k : n + suc (total - n - 1) ≡ total = omega arith in
    ap (λ m. filter test (range_with_len 0 m)) (sym k) ∙ filter_split test n (suc (total - n - 1))
    ∙ ap (λ xs. filter test (range_with_len 0 n) ++ xs)
    (skip test n (range_with_len (n + 1) (total - n - 1)) true e)

abbrev pub AreRising : ℕ → List ℕ → Type 0
AreRising from [] = Unit {0}
AreRising from (x ∷ xs) = (from ≤ x) × AreRising (x + 1) xs

lower : (from least : ℕ) (xs : List ℕ) → from ≤ least → AreRising least xs → AreRising from xs
lower from least [] less h = tt
lower from least (x ∷ xs) less h = (omega arith, h.1)

pub filter_rises : (test : ℕ → Bool) (from n : ℕ)
    → AreRising from (filter test (range_with_len from n))
filter_rises test from zero = tt
filter_rises test from (suc n) = by (test from) (filter_rises test (from + 1) n)
  where
    by : (b : Bool) → AreRising (from + 1) (filter test (range_with_len (from + 1) n))
        → AreRising from
        (cond b (from ∷ filter test (range_with_len (from + 1) n))
        (filter test (range_with_len (from + 1) n)))
    by true h = (omega arith, h)
    by false h = lower from (from + 1) (filter test (range_with_len (from + 1) n)) (omega arith) h

pub filter_below : (test : ℕ → Bool) (top from n : ℕ) → from + n ≤ top
    → AllByRecursion (λ k. k < top) (filter test (range_with_len from n))
filter_below test top from zero less = tt
filter_below test top from (suc n) less =
    by (test from) (filter_below test top (from + 1) n (omega arith))
  where
    by : (b : Bool) → AllByRecursion (λ k. k < top) (filter test (range_with_len (from + 1) n))
        → AllByRecursion (λ k. k < top)
        (cond b (from ∷ filter test (range_with_len (from + 1) n))
        (filter test (range_with_len (from + 1) n)))
    by true h = (omega arith, h)
    by false h = h

pub at_below : (top : ℕ) (xs : List ℕ) (i : ℕ) → 0 < top → AllByRecursion (λ k. k < top) xs
    → slice_index xs i < top
at_below top [] i some h = some
at_below top (x ∷ xs) zero some h = h.0
at_below top (x ∷ xs) (suc i) some h = at_below top xs i some h.1

from_least : (from n : ℕ) (xs ys : List ℕ) → AreRising from (xs ++ (n ∷ ys)) → from ≤ n
from_least from n [] ys h = h.0
from_least from n (x ∷ xs) ys h = let k = from_least (x + 1) n xs ys h.1 in let l =
    h.0 in omega arith

pub first_most : (from n : ℕ) (xs ys : List ℕ) → AreRising from (xs ++ (n ∷ ys))
    → slice_index (xs ++ (n ∷ ys)) 0 ≤ n
first_most from n [] ys h = omega arith
first_most from n (x ∷ xs) ys h = let k = from_least (x + 1) n xs ys h.1 in omega arith

last_behind : (n from : ℕ) (ys : List ℕ) → n < from → AreRising from ys
    → n ≤ slice_index (n ∷ ys) (length ys)
last_behind n from [] less h = omega arith
last_behind n from (y ∷ ys) less h = let k = last_behind y (y + 1) ys (omega arith) h.1 in let l =
    h.0 in below _ _ _ (omega arith) k
  where
    below : (a b c : ℕ) → a ≤ b → b ≤ c → a ≤ c
    below a b c p q = omega arith

pub last_least : (from n : ℕ) (xs ys : List ℕ) → AreRising from (xs ++ (n ∷ ys))
    → n ≤ slice_index (xs ++ (n ∷ ys)) (length (xs ++ (n ∷ ys)) - 1)
last_least from n [] ys h =
    let e : length (n ∷ ys) - 1 ≡ length ys = omega arith in
    subst (λ i. n ≤ slice_index (n ∷ ys) i) (sym e) (last_behind n (n + 1) ys (omega arith) h.1)
last_least from n (x ∷ xs) ys h =
    let k = last_least (x + 1) n xs ys h.1 in
    next (xs ++ (n ∷ ys)) (some_there xs) k
  where
    some_there : (zs : List ℕ) → 1 ≤ length (zs ++ (n ∷ ys))
    some_there [] = omega arith
    some_there (z ∷ zs) = omega arith

    next : (zs : List ℕ) → 1 ≤ length zs → n ≤ slice_index zs (length zs - 1)
        → n ≤ slice_index (x ∷ zs) (length (x ∷ zs) - 1)
    next zs some k =
        let e : length (x ∷ zs) - 1 ≡ suc (length zs - 1) = omega arith in
        subst (λ i. n ≤ slice_index (x ∷ zs) i) (sym e) k

pub some_of : (n : ℕ) (xs ys : List ℕ) → 1 ≤ length (xs ++ (n ∷ ys))
some_of n [] ys = omega arith
some_of n (x ∷ xs) ys = omega arith
