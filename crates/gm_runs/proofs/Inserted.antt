-- The set of an insertion.
use Rattle.std.proofs.Common.{◌≡◌, ◌⊎◌, inl, inr, ⊎_elim, ℕ, zero, suc, ◌+◌, ◌<◌, ◌≤◌, List, []}
use Rattle.std.proofs.Common.{◌∷◌, ◌++◌, length, get_or, set, sym, ap, ◌∙◌, subst, arith}
use Rattle.std.specs.Prelude.{min, max, ltb, true, false}
use Rattle.std.proofs.lemmas.Bool.{cases_lt, ltb-true, ltb-false, cases_Bool, cond-true, cond-false}
use Rattle.std.proofs.lemmas.Bool.{le-ltb, lt-ltb}
use Rattle.gm_runs.specs.Runs.{HasNumber, AreRunsFrom}
use Rattle.gm_runs.specs.List.{inserted}
use Rattle.gm_runs.proofs.Apart.{from_less}

-- the three ways of a run to lie
data Way (low high : ℕ) (x : ℕ × ℕ) : Type 0 where
  behind : ltb (high + 1) x.0 ≡ true → Way low high x
  before : ltb (high + 1) x.0 ≡ false → ltb (x.1 + 1) low ≡ true → Way low high x
  touching : ltb (high + 1) x.0 ≡ false → ltb (x.1 + 1) low ≡ false → Way low high x

way : (low high : ℕ) (x : ℕ × ℕ) → Way low high x
way low high x =
    ⊎_elim (λ t. behind t)
    (λ f. ⊎_elim (λ t. before f t) (λ g. touching f g) (cases_Bool (ltb (x.1 + 1) low)))
    (cases_Bool (ltb (high + 1) x.0))

inserted_behind : (low high : ℕ) (x : ℕ × ℕ) (xs : List (ℕ × ℕ)) → ltb (high + 1) x.0 ≡ true
    → inserted low high (x ∷ xs) ≡ (low, high) ∷ x ∷ xs
inserted_behind low high x xs t = cond-true (ltb (high + 1) x.0) _ _ t

inserted_before : (low high : ℕ) (x : ℕ × ℕ) (xs : List (ℕ × ℕ)) → ltb (high + 1) x.0 ≡ false
    → ltb (x.1 + 1) low ≡ true → inserted low high (x ∷ xs) ≡ x ∷ inserted low high xs
inserted_before low high x xs f t =
    cond-false (ltb (high + 1) x.0) _ _ f ∙ cond-true (ltb (x.1 + 1) low) _ _ t

inserted_touching : (low high : ℕ) (x : ℕ × ℕ) (xs : List (ℕ × ℕ)) → ltb (high + 1) x.0 ≡ false
    → ltb (x.1 + 1) low ≡ false
    → inserted low high (x ∷ xs) ≡ inserted (min low x.0) (max high x.1) xs
inserted_touching low high x xs f g =
    cond-false (ltb (high + 1) x.0) _ _ f ∙ cond-false (ltb (x.1 + 1) low) _ _ g

pub inserted_runs : (least low high : ℕ) (xs : List (ℕ × ℕ)) → AreRunsFrom least xs → least ≤ low
    → low ≤ high → AreRunsFrom least (inserted low high xs)
inserted_runs least low high [] runs from rise = (from, rise, tt)
inserted_runs least low high (x ∷ xs) runs from rise =
    elim (way low high x) [
      | behind t ↦ subst (AreRunsFrom least) (sym (inserted_behind low high x xs t))
          (from, rise, (let h = ltb-true (high + 1) x.0 t in (omega arith), runs.1, runs.2))
      | before f t ↦
          subst (AreRunsFrom least) (sym (inserted_before low high x xs f t)) (
            runs.0,
            runs.1,
            inserted_runs (x.1 + 2) low high xs runs.2
                (let h = ltb-true (x.1 + 1) low t in omega arith) rise,
          )
      | touching f g ↦
          subst (AreRunsFrom least) (sym (inserted_touching low high x xs f g))
          (inserted_runs least (min low x.0) (max high x.1) xs
          (from_less least (x.1 + 2) xs (omega arith) runs.2) (omega arith) (omega arith))
    ]

-- inside the hull of two runs that touch
in_hull : (low high c : ℕ) (x : ℕ × ℕ) → low ≤ high → x.0 ≤ x.1 → x.0 ≤ high + 1 → low ≤ x.1 + 1
    → min low x.0 ≤ c → c ≤ max high x.1 → ((x.0 ≤ c) × (c ≤ x.1)) ⊎ ((low ≤ c) × (c ≤ high))
in_hull low high c x rise some a b from to =
    ⊎_elim (λ h. inl ((omega arith), omega arith))
    (λ h. ⊎_elim (λ k. inl ((omega arith), omega arith)) (λ k. inr (h, k)) (cases_lt high c))
    (cases_lt c low)

pub inserted_into : (least low high : ℕ) (xs : List (ℕ × ℕ)) (c : ℕ) → AreRunsFrom least xs
    → low ≤ high → HasNumber xs c ⊎ ((low ≤ c) × (c ≤ high)) → HasNumber (inserted low high xs) c
inserted_into least low high [] c runs rise h = ⊎_elim (λ n. absurd n) (λ w. inl w) h
inserted_into least low high (x ∷ xs) c runs rise h =
    elim (way low high x) [
      | behind t ↦ subst (λ l. HasNumber l c) (sym (inserted_behind low high x xs t))
          (⊎_elim (λ old. inr old) (λ w. inl w) h)
      | before f t ↦
          subst (λ l. HasNumber l c) (sym (inserted_before low high x xs f t))
          (⊎_elim (λ old. ⊎_elim (λ here. inl here)
          (λ there. inr (inserted_into (x.1 + 2) low high xs c runs.2 rise (inl there)))
          old) (λ w. inr (inserted_into (x.1 + 2) low high xs c runs.2 rise (inr w))) h)
      | touching f g ↦
          let more = λ (k : HasNumber xs c ⊎ ((min low x.0 ≤ c) × (c ≤ max high x.1))).
          inserted_into (x.1 + 2) (min low x.0) (max high x.1) xs c runs.2 (omega arith) k in
          subst (λ l. HasNumber l c) (sym (inserted_touching low high x xs f g))
          (⊎_elim (λ old. ⊎_elim (λ here. more (inr ((omega arith), omega arith)))
          (λ there. more (inl there)) old) (λ w. more (inr ((omega arith), omega arith))) h)
    ]

pub inserted_out : (least low high : ℕ) (xs : List (ℕ × ℕ)) (c : ℕ) → AreRunsFrom least xs
    → low ≤ high → HasNumber (inserted low high xs) c → HasNumber xs c ⊎ ((low ≤ c) × (c ≤ high))
inserted_out least low high [] c runs rise h = ⊎_elim (λ w. inr w) (λ n. absurd n) h
inserted_out least low high (x ∷ xs) c runs rise h =
    elim (way low high x) [
      | behind t ↦ ⊎_elim (λ w. inr w) (λ old. inl old)
          (subst (λ l. HasNumber l c) (inserted_behind low high x xs t) h)
      | before f t ↦
          ⊎_elim (λ here. inl (inl here))
          (λ there. ⊎_elim (λ old. inl (inr old)) (λ w. inr w)
          (inserted_out (x.1 + 2) low high xs c runs.2 rise there))
          (subst (λ l. HasNumber l c) (inserted_before low high x xs f t) h)
      | touching f g ↦
          let k = inserted_out (x.1 + 2) (min low x.0) (max high x.1) xs c runs.2 (omega arith)
          (subst (λ l. HasNumber l c) (inserted_touching low high x xs f g) h) in
          ⊎_elim (λ old. inl (inr old))
          (λ w. ⊎_elim (λ here. inl (inl here)) (λ new. inr new)
          (in_hull low high c x rise runs.1 (ltb-false (high + 1) x.0 f)
          (ltb-false (x.1 + 1) low g) w.0 w.1)) k
    ]

-- ---- at the end of the list
last_at_least : (least n : ℕ) (xs : List (ℕ × ℕ)) (d : ℕ × ℕ) → AreRunsFrom least xs
    → length xs ≡ n + 1 → least ≤ (get_or xs n d).0
last_at_least least n [] d runs size = absurd (omega arith)
last_at_least least zero (x ∷ xs) d runs size = runs.0
last_at_least least (suc n) (x ∷ xs) d runs size =
    omega (arith, last_at_least (x.1 + 2) n xs d runs.2 (omega arith))

last_rise : (least n : ℕ) (xs : List (ℕ × ℕ)) (d : ℕ × ℕ) → AreRunsFrom least xs → length xs ≡ n + 1
    → (get_or xs n d).0 ≤ (get_or xs n d).1
last_rise least n [] d runs size = absurd (omega arith)
last_rise least zero (x ∷ xs) d runs size = runs.1
last_rise least (suc n) (x ∷ xs) d runs size = last_rise (x.1 + 2) n xs d runs.2 (omega arith)

pub appended : (least low high n : ℕ) (xs : List (ℕ × ℕ)) (d : ℕ × ℕ) → AreRunsFrom least xs
    → low ≤ high → length xs ≡ n + 1 → (get_or xs n d).1 + 1 < low
    → inserted low high xs ≡ xs ++ (low, high) ∷ []
appended least low high n [] d runs rise size apart = absurd (omega arith)
appended least low high zero (x ∷ []) d runs rise size apart =
    inserted_before low high x [] (le-ltb (high + 1) x.0 (omega arith)) (lt-ltb (x.1 + 1) low apart)
appended least low high zero (x ∷ y ∷ ys) d runs rise size apart = absurd (omega arith)
appended least low high (suc n) (x ∷ xs) d runs rise size apart =
    let less = last_at_least (x.1 + 2) n xs d runs.2 (omega arith) in
    let last : (get_or xs n d).0 ≤ (get_or xs n d).1 =
    last_rise (x.1 + 2) n xs d runs.2 (omega arith) in
    inserted_before low high x xs (le-ltb (high + 1) x.0 (omega (arith, less, last, apart)))
    (lt-ltb (x.1 + 1) low (omega (arith, less, last, apart)))
    ∙ ap (λ l. x ∷ l) (appended (x.1 + 2) low high n xs d runs.2 rise (omega arith) apart)

pub extended : (least low high n : ℕ) (xs : List (ℕ × ℕ)) (d : ℕ × ℕ) → AreRunsFrom least xs
    → low ≤ high → length xs ≡ n + 1 → low ≤ (get_or xs n d).1 + 1 → (get_or xs n d).0 ≤ low
    → inserted low high xs ≡ set xs n ((get_or xs n d).0, max (get_or xs n d).1 high)
extended least low high n [] d runs rise size near from = absurd (omega arith)
extended least low high zero (x ∷ []) d runs rise size near from =
    inserted_touching low high x [] (le-ltb (high + 1) x.0 (omega arith))
    (le-ltb (x.1 + 1) low near)
    ∙ ap (λ a. (a, max high x.1) ∷ []) (omega arith) ∙ ap (λ b. (x.0, b) ∷ []) (omega arith)
extended least low high zero (x ∷ y ∷ ys) d runs rise size near from = absurd (omega arith)
extended least low high (suc n) (x ∷ xs) d runs rise size near from =
    let less = last_at_least (x.1 + 2) n xs d runs.2 (omega arith) in
    inserted_before low high x xs (le-ltb (high + 1) x.0 (omega (arith, less, from)))
    (lt-ltb (x.1 + 1) low (omega (arith, less, from)))
    ∙ ap (λ l. x ∷ l) (extended (x.1 + 2) low high n xs d runs.2 rise (omega arith) near from)
