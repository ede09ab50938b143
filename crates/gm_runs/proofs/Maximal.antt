-- The maximal runs of a set.
use Rattle.std.proofs.Common.{◌≡◌, ◌⊎◌, inl, inr, ⊎_elim, ℕ, zero, suc, ◌+◌, ◌<◌, ◌≤◌, List, []}
use Rattle.std.proofs.Common.{◌∷◌, refl, sym, ap, ◌∙◌, subst, arith}
use Rattle.std.specs.Prelude.{Bool, true, eqb}
use Rattle.std.proofs.lemmas.Bool.{cases_lt, cases_Bool, cond-true, cond-false, eqb-true, eqb-false}
use Rattle.std.proofs.lemmas.Bool.{both_ways}
use Rattle.gm_runs.specs.Runs.{HasNumber, AreRunsFrom, AreMaximalRuns, with_first, runs_from}
use Rattle.gm_runs.specs.Runs.{maximal_runs}
use Rattle.gm_runs.proofs.Apart.{at_least, from_less}

-- ---- two lists of runs that hold the same numbers are equal
module _ (a b : ℕ) (x y : ℕ × ℕ) (xs ys : List (ℕ × ℕ)) (runs : AreRunsFrom a (x ∷ xs))
    (others : AreRunsFrom b (y ∷ ys))
    (to : (c : ℕ) → HasNumber (x ∷ xs) c → HasNumber (y ∷ ys) c) where
  head_low : y.0 ≤ x.0
  head_low = at_least y.0 (y ∷ ys) x.0 ((omega arith), others.1, others.2)
      (to x.0 (inl ((omega arith), omega arith)))

  head_high : x.0 ≡ y.0 → x.1 ≤ y.1
  head_high same =
      ⊎_elim (λ less. ⊎_elim (λ here. omega arith)
      (λ there. absurd (let h = at_least (y.1 + 2) ys (y.1 + 1) others.2 there in omega arith))
      (to (y.1 + 1) (inl ((omega arith), omega arith)))) (λ fine. fine) (cases_lt y.1 x.1)

  tail_has : x.1 ≡ y.1 → (c : ℕ) → HasNumber xs c → HasNumber ys c
  tail_has same c has =
      ⊎_elim (λ here. absurd (let h = at_least (x.1 + 2) xs c runs.2 has in omega arith))
      (λ there. there) (to c (inr has))

pub same_runs : (a b : ℕ) (xs ys : List (ℕ × ℕ)) → AreRunsFrom a xs → AreRunsFrom b ys
    → ((c : ℕ) → HasNumber xs c → HasNumber ys c)
    → ((c : ℕ) → HasNumber ys c → HasNumber xs c) → xs ≡ ys
same_runs a b [] [] runs others to from = refl
same_runs a b [] (y ∷ ys) runs others to from = absurd (from y.0 (inl ((omega arith), others.1)))
same_runs a b (x ∷ xs) [] runs others to from = absurd (to x.0 (inl ((omega arith), runs.1)))
same_runs a b (x ∷ xs) (y ∷ ys) runs others to from =
    let low : x.0 ≡ y.0 =
    omega (
      arith,
      head_low a b x y xs ys runs others to,
      head_low b a y x ys xs others runs from,
    ) in
    let high : x.1 ≡ y.1 =
    omega (
      arith,
      head_high a b x y xs ys runs others to low,
      head_high b a y x ys xs others runs from (sym low),
    ) in
    let rest : xs ≡ ys =
    same_runs (x.1 + 2) (y.1 + 2) xs ys runs.2 others.2
    (tail_has a b x y xs ys runs others to high)
    (tail_has b a y x ys xs others runs from (sym high)) in
    let head : x ≡ y = ap (λ n. (n, x.1)) low ∙ ap (λ n. (y.0, n)) high in
    ap (λ h. h ∷ xs) head ∙ ap (λ t. y ∷ t) rest

-- ---- a number put first
pub first_runs : (n : ℕ) (xs : List (ℕ × ℕ)) → AreRunsFrom (n + 1) xs
    → AreRunsFrom n (with_first n xs)
first_runs n [] runs = ((omega arith), (omega arith), tt)
first_runs n (x ∷ xs) runs =
    ⊎_elim (λ t. subst (AreRunsFrom n) (sym (cond-true (eqb x.0 (n + 1)) _ _ t))
    ((omega arith), (omega arith), runs.2))
    (λ f. subst (AreRunsFrom n) (sym (cond-false (eqb x.0 (n + 1)) _ _ f)) (
      (omega arith),
      (omega arith),
      ((let h = eqb-false x.0 (n + 1) f in omega arith), runs.1, runs.2),
    ))
    (cases_Bool (eqb x.0 (n + 1)))

pub first_into : (n : ℕ) (xs : List (ℕ × ℕ)) (c : ℕ) → AreRunsFrom (n + 1) xs
    → (c ≡ n) ⊎ HasNumber xs c → HasNumber (with_first n xs) c
first_into n [] c runs h = ⊎_elim (λ e. inl ((omega arith), omega arith)) (λ none. absurd none) h
first_into n (x ∷ xs) c runs h =
    ⊎_elim
    (λ t. let e = eqb-true x.0 (n + 1) t in
    subst (λ l. HasNumber l c) (sym (cond-true (eqb x.0 (n + 1)) _ _ t))
    (⊎_elim (λ first. inl ((omega arith), omega arith))
    (λ old. ⊎_elim (λ here. inl ((omega arith), here.1)) (λ there. inr there) old) h))
    (λ f. subst (λ l. HasNumber l c) (sym (cond-false (eqb x.0 (n + 1)) _ _ f))
    (⊎_elim (λ first. inl ((omega arith), omega arith)) (λ old. inr old) h))
    (cases_Bool (eqb x.0 (n + 1)))

pub first_out : (n : ℕ) (xs : List (ℕ × ℕ)) (c : ℕ) → HasNumber (with_first n xs) c
    → (c ≡ n) ⊎ HasNumber xs c
first_out n [] c h = ⊎_elim (λ here. inl (omega arith)) (λ none. absurd none) h
first_out n (x ∷ xs) c h =
    ⊎_elim
    (λ t. let e = eqb-true x.0 (n + 1) t in
    ⊎_elim (λ here. ⊎_elim (λ less. inl (omega arith)) (λ more. inr (inl ((omega arith), here.1)))
    (cases_lt c x.0)) (λ there. inr (inr there))
    (subst (λ l. HasNumber l c) (cond-true (eqb x.0 (n + 1)) _ _ t) h))
    (λ f. ⊎_elim (λ here. inl (omega arith)) (λ old. inr old)
    (subst (λ l. HasNumber l c) (cond-false (eqb x.0 (n + 1)) _ _ f) h))
    (cases_Bool (eqb x.0 (n + 1)))

-- ---- the numbers that pass a test
pub test_runs : (test : ℕ → Bool) (low count : ℕ) → AreRunsFrom low (runs_from test low count)
unfolding runs_from
test_runs test low zero = tt
test_runs test low (suc count) =
    let rest = test_runs test (low + 1) count in
    ⊎_elim (λ t. subst (AreRunsFrom low) (sym (cond-true (test low) _ _ t))
    (first_runs low (runs_from test (low + 1) count) rest))
    (λ f. subst (AreRunsFrom low) (sym (cond-false (test low) _ _ f))
    (from_less low (low + 1) (runs_from test (low + 1) count) (omega arith) rest))
    (cases_Bool (test low))

pub test_into : (test : ℕ → Bool) (low count c : ℕ) → low ≤ c → c < low + count → test c ≡ true
    → HasNumber (runs_from test low count) c
unfolding runs_from
test_into test low zero c from to h = absurd (omega arith)
test_into test low (suc count) c from to h =
    let rest = λ (more : low < c). test_into test (low + 1) count c (omega arith) (omega arith) h in
    ⊎_elim
    (λ t. subst (λ l. HasNumber l c) (sym (cond-true (test low) _ _ t))
    (first_into low (runs_from test (low + 1) count) c (test_runs test (low + 1) count)
    (⊎_elim (λ more. inr (rest more)) (λ here. inl (omega arith)) (cases_lt low c))))
    (λ f. subst (λ l. HasNumber l c) (sym (cond-false (test low) _ _ f))
    (⊎_elim (λ more. rest more)
    (λ here. absurd
    (both_ways _ f (let e : c ≡ low = omega arith in subst (λ k. test k ≡ true) e h)))
    (cases_lt low c)))
    (cases_Bool (test low))

pub test_out : (test : ℕ → Bool) (low count c : ℕ) → HasNumber (runs_from test low count) c
    → (c < low + count) × (test c ≡ true)
unfolding runs_from
test_out test low zero c h = absurd h
test_out test low (suc count) c h =
    let rest : HasNumber (runs_from test (low + 1) count) c
    → (c < low + suc count) × (test c ≡ true) = λ old. let o =
    test_out test (low + 1) count c old in ((let less = o.0 in omega arith), o.1) in
    ⊎_elim
    (λ t. ⊎_elim (λ here. ((omega arith), subst (λ k. test k ≡ true) (sym here) t))
    (λ old. rest old)
    (first_out low (runs_from test (low + 1) count) c
    (subst (λ l. HasNumber l c) (cond-true (test low) _ _ t) h)))
    (λ f. rest (subst (λ l. HasNumber l c) (cond-false (test low) _ _ f) h))
    (cases_Bool (test low))

pub maximal : (test : ℕ → Bool) (n : ℕ)
    → AreMaximalRuns (maximal_runs test n) (λ c. (c < n) × (test c ≡ true))
maximal test n = record {
  apart = test_runs test 0 n;
  exact = λ c. (
    (λ h. let o = test_out test 0 n c h in ((let less = o.0 in omega arith), o.1)),
    (λ h. test_into test 0 n c (omega arith) (let less = h.0 in omega arith) h.1),
  );
}
