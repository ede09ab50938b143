-- The answer as a function is the answer by its properties.
use Rattle.std.proofs.Common.{◌≡◌, inl, inr, ⊎_elim, ℕ, zero, suc, ◌+◌, ◌*◌, ◌^◌, ◌<◌, ◌≤◌, List}
use Rattle.std.proofs.Common.{length, sym, ap, ◌∙◌, subst, arith}
use Rattle.std.specs.Prelude.{Bool, true, false, ◌&&◌, leb, Option, Some, None}
use Rattle.std.proofs.lemmas.Bool.{cases_lt, cond-true, cond-false, and_parts, and_from, or_cases}
use Rattle.std.proofs.lemmas.Bool.{or_left, or_right, leb-true, le-leb, eqb-true, eq-eqb}
use Rattle.std.proofs.lemmas.Bool.{false_from_ne_true}
use Rattle.gm_trees.specs.declared.node.Node.{Node}
use Rattle.gm_trees.specs.declared.window.Window.{Window}
use Rattle.gm_trees.specs.Tree.{Shape, IsTree}
use Rattle.gm_runs.specs.Runs.{AreRuns, AreMaximalRuns}
use Rattle.gm_split.specs.RunLaws.{RunLaws}
use Rattle.gm_split.specs.Windows.{meets}
use Rattle.gm_split.specs.Levels.{InLevelSet, partial_count, Qualifies, IsStop}
use Rattle.gm_split.specs.Explained.{any_below, is_own, in_level, level_runs, qualifies, stop_from}
use Rattle.gm_split.specs.Explained.{stop_level, explained_runs}
use Rattle.gm_split.proofs.Below.{InBelow, inside_out}
use Rattle.gm_split.proofs.Decomposed.{below_from_path, path_from_below, only_runs}

-- ---- the test
any_from : (n q : ℕ) (test : ℕ → Bool) → q < n → test q ≡ true → any_below n test ≡ true
any_from zero q test less h = absurd (omega arith)
any_from (suc n) q test less h =
    ⊎_elim (λ earlier. or_left (any_below n test) (test n) (any_from n q test earlier h))
    (λ here. or_right (any_below n test) (test n)
    (let e : q ≡ n = omega arith in subst (λ k. test k ≡ true) e h)) (cases_lt q n)

any_gives : (n : ℕ) (test : ℕ → Bool) → any_below n test ≡ true
    → (q : ℕ) × (q < n) × (test q ≡ true)
any_gives zero test h = absurd cc
any_gives (suc n) test h =
    ⊎_elim (λ earlier. let q = any_gives n test earlier in (q.0, (let l = q.1 in omega arith), q.2))
    (λ here. (n, omega arith, here)) (or_cases (any_below n test) (test n) h)

own_from : (o : Option ℕ) (c : ℕ) → o ≡ Some c → is_own o c ≡ true
own_from None c h = absurd cc
own_from (Some d) c h = eq-eqb d c cc

own_gives : (o : Option ℕ) (c : ℕ) → is_own o c ≡ true → o ≡ Some c
own_gives None c h = absurd cc
own_gives (Some d) c h = ap (λ n. Some n) (eqb-true d c h)

pub in_level_from : (D : ℕ) (s : Shape) (ws : List Window) (k : ℕ) (n : Node) (c : ℕ)
    → InBelow D s ws k n c → in_level D s ws k n c ≡ true
in_level_from D s ws zero n c h =
    and_from (leb n.first c && leb c (s.last n)) (meets D ws (s.reach n))
    (and_from (leb n.first c) (leb c (s.last n)) (le-leb n.first c h.0.0)
    (le-leb c (s.last n) h.0.1)) h.1
in_level_from D s ws (suc k) n c h =
    ⊎_elim (λ own. or_left (is_own (s.own n) c && meets D ws (s.reach n))
    (any_below (2 ^ D) (λ q. in_level D s ws k (s.child n q) c))
    (and_from (is_own (s.own n) c) (meets D ws (s.reach n))
    (own_from (s.own n) c own.0) own.1))
    (λ below. or_right (is_own (s.own n) c && meets D ws (s.reach n))
    (any_below (2 ^ D) (λ q. in_level D s ws k (s.child n q) c))
    (any_from (2 ^ D) below.0 (λ q. in_level D s ws k (s.child n q) c) below.1
    (in_level_from D s ws k (s.child n below.0) c below.2))) h

pub in_level_gives : (D : ℕ) (s : Shape) (ws : List Window) (k : ℕ) (n : Node) (c : ℕ)
    → in_level D s ws k n c ≡ true → InBelow D s ws k n c
in_level_gives D s ws zero n c h =
    let parts = and_parts (leb n.first c && leb c (s.last n)) (meets D ws (s.reach n)) h in
    let both = and_parts (leb n.first c) (leb c (s.last n)) parts.0 in
    ((leb-true n.first c both.0, leb-true c (s.last n) both.1), parts.1)
in_level_gives D s ws (suc k) n c h =
    ⊎_elim (λ own. let parts = and_parts (is_own (s.own n) c) (meets D ws (s.reach n)) own in
    inl (own_gives (s.own n) c parts.0, parts.1))
    (λ below. let q = any_gives (2 ^ D) (λ i. in_level D s ws k (s.child n i) c) below in
    inr (q.0, q.1, in_level_gives D s ws k (s.child n q.0) c q.2))
    (or_cases (is_own (s.own n) c && meets D ws (s.reach n))
    (any_below (2 ^ D) (λ q. in_level D s ws k (s.child n q) c)) h)

pub explained_are_runs : (D : ℕ) (s : Shape) (ws : List Window) → RunLaws → (target : ℕ)
    → AreRuns (explained_runs D s ws target)
unfolding explained_runs level_runs
explained_are_runs D s ws laws target =
    (laws.maximal (in_level D s ws (stop_level D s ws target) s.root) (s.last s.root + 1)).apart

module _ (D : ℕ) (s : Shape) (ws : List Window) (Comes : Node → Type 0) (tree : IsTree D s Comes)
    (laws : RunLaws) where
  bounded : (l c : ℕ) → l ≤ s.depth → InLevelSet D s ws l c → c < s.last s.root + 1
  bounded l c within h =
      let has = inside_out D s ws Comes tree l s.root c tree.root_comes
      (omega (arith, tree.root_level)) (below_from_path D s ws l s.root c h.0 h.1 h.2) in
      omega (arith, has.1)

  pub level_runs_maximal : (l : ℕ) → l ≤ s.depth
      → AreMaximalRuns (level_runs D s ws l) (InLevelSet D s ws l)
  unfolding level_runs
  level_runs_maximal l within =
      let runs = laws.maximal (in_level D s ws l s.root) (s.last s.root + 1) in
      record {
        apart = runs.apart;
        exact = λ c. (
          (λ h. path_from_below D s ws l s.root c
              (in_level_gives D s ws l s.root c ((runs.exact c).0 h).1)),
          (λ h. (runs.exact c).1 (
            bounded l c within h,
            in_level_from D s ws l s.root c (below_from_path D s ws l s.root c h.0 h.1 h.2),
          )),
        );
      }

  pub qualifies_from : (target l : ℕ) → l ≤ s.depth → Qualifies D s ws target l
      → qualifies D s ws target l ≡ true
  qualifies_from target l within q =
      and_from (leb (length (level_runs D s ws l)) target)
      (leb (partial_count D s ws l s.root) (4 * target))
      (le-leb (length (level_runs D s ws l)) target
      (q.runs (level_runs D s ws l) (level_runs_maximal l within)))
      (le-leb (partial_count D s ws l s.root) (4 * target) q.partial)

  pub qualifies_gives : (target l : ℕ) → l ≤ s.depth → qualifies D s ws target l ≡ true
      → Qualifies D s ws target l
  qualifies_gives target l within h =
      let parts = and_parts (leb (length (level_runs D s ws l)) target)
      (leb (partial_count D s ws l s.root) (4 * target)) h in
      record {
        runs = λ rs runs. let e =
            ap length (only_runs laws (InLevelSet D s ws l) rs (level_runs D s ws l) runs
            (level_runs_maximal l within)) in
            omega (arith, e, leb-true (length (level_runs D s ws l)) target parts.0);
        partial = leb-true (partial_count D s ws l s.root) (4 * target) parts.1;
      }

  -- from a level below the stop, the search ends at the stop
  stops_there : (k l stop target : ℕ) → l + k ≡ s.depth → l ≤ stop → IsStop D s ws target stop
      → stop_from D s ws target k l ≡ stop
  unfolding stop_from
  stops_there zero l stop target at low is = omega (arith, at, low, is.within)
  stops_there (suc k) l stop target at low is =
      ⊎_elim
      (λ more. cond-true (qualifies D s ws target (l + 1)) _ _
      (qualifies_from target (l + 1) (omega (arith, at)) (is.all (l + 1) (omega (arith, more))))
      ∙ stops_there k (l + 1) stop target (omega (arith, at)) (omega (arith, more)) is)
      (λ past.
      let e : stop ≡ l = omega arith in
      let not : qualifies D s ws target (l + 1) ≡ false =
      false_from_ne_true (qualifies D s ws target (l + 1)) (λ t.
      is.next (omega (arith, e, at))
      (subst (λ i. Qualifies D s ws target (i + 1)) (sym e)
      (qualifies_gives target (l + 1) (omega (arith, at)) t))) in
      cond-false (qualifies D s ws target (l + 1)) _ _ not ∙ sym e)
      (cases_lt l stop)

  pub only_stop : (stop target : ℕ) → IsStop D s ws target stop → stop ≡ stop_level D s ws target
  unfolding stop_level
  only_stop stop target is = sym (stops_there s.depth 0 stop target (omega arith) (omega arith) is)

  pub only_level_runs : (l : ℕ) (rs : List (ℕ × ℕ)) → l ≤ s.depth
      → AreMaximalRuns rs (InLevelSet D s ws l) → rs ≡ level_runs D s ws l
  only_level_runs l rs within runs =
      only_runs laws (InLevelSet D s ws l) rs (level_runs D s ws l) runs
      (level_runs_maximal l within)

  pub only_explained : (stop target : ℕ) (rs : List (ℕ × ℕ)) → IsStop D s ws target stop
      → AreMaximalRuns rs (InLevelSet D s ws stop) → rs ≡ explained_runs D s ws target
  unfolding explained_runs
  only_explained stop target rs is runs =
      only_level_runs stop rs is.within runs ∙ ap (level_runs D s ws) (only_stop stop target is)
