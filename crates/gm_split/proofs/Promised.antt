-- The stop level, covering and tightness.
use Rattle.std.proofs.Common.{◌≡◌, inl, inr, ⊎_elim, ℕ, zero, suc, ◌+◌, ◌≤◌, List, length, sym}
use Rattle.std.proofs.Common.{subst, arith}
use Rattle.std.specs.Prelude.{true}
use Rattle.std.proofs.lemmas.Bool.{cases_lt, cases_Bool, cond-true, cond-false, both_ways}
use Rattle.gm_runs.specs.Runs.{HasNumber, AreMaximalRuns}
use Rattle.gm_trees.specs.declared.node.Node.{Node}
use Rattle.gm_trees.specs.declared.window.Window.{Window}
use Rattle.gm_trees.specs.Tree.{Shape, HasCode, IsTree, walk}
use Rattle.gm_split.specs.Windows.{meets}
use Rattle.gm_split.specs.Levels.{InLevelSet, IsNodeOfCode, Qualifies, IsStop}
use Rattle.gm_split.specs.Explained.{qualifies, stop_from, stop_level, explained_runs}
use Rattle.gm_split.specs.RunLaws.{RunLaws}
use Rattle.gm_split.proofs.Covering.{cut_covers}
use Rattle.gm_split.proofs.Below.{inside_out}
use Rattle.gm_split.proofs.Decomposed.{below_from_path}
use Rattle.gm_split.proofs.Stop.{first_reached}
use Rattle.gm_split.proofs.Answered.{level_runs_maximal, qualifies_from, qualifies_gives}

module _ (D : ℕ) (s : Shape) (ws : List Window) (Comes : Node → Type 0) (tree : IsTree D s Comes)
    (laws : RunLaws) (target : ℕ) (some : 1 ≤ target) where
  -- the root's level qualifies
  first_qualifies : Qualifies D s ws target 0
  first_qualifies = (first_reached D s ws Comes tree laws target some).all 0 (omega arith)

  -- from a level up to which all qualify, the search ends at the stop
  ends_there : (k l : ℕ) → l + k ≡ s.depth → ((j : ℕ) → j ≤ l → Qualifies D s ws target j)
      → IsStop D s ws target (stop_from D s ws target k l)
  unfolding stop_from
  ends_there zero l at all =
      record {
        within = omega (arith, at);
        all = all;
        next = λ less q. absurd (omega (arith, less, at));
      }
  ends_there (suc k) l at all =
      ⊎_elim
      (λ t.
      let next : Qualifies D s ws target (l + 1) =
      qualifies_gives D s ws Comes tree laws target (l + 1) (omega (arith, at)) t in
      subst (IsStop D s ws target) (sym (cond-true (qualifies D s ws target (l + 1)) _ _ t))
      (ends_there k (l + 1) (omega (arith, at))
      (λ j h. ⊎_elim (λ earlier. all j (omega arith))
      (λ here. let e : l + 1 ≡ j = omega arith in subst (Qualifies D s ws target) e next)
      (cases_lt j (l + 1)))))
      (λ f.
      subst (IsStop D s ws target) (sym (cond-false (qualifies D s ws target (l + 1)) _ _ f))
      (record {
        within = omega (arith, at);
        all = all;
        next = λ less q. both_ways _ f
            (qualifies_from D s ws Comes tree laws target (l + 1) (omega arith) q);
      }))
      (cases_Bool (qualifies D s ws target (l + 1)))

  pub stops : IsStop D s ws target (stop_level D s ws target)
  unfolding stop_level
  stops = ends_there s.depth 0 (omega arith)
      (λ j h. let e : 0 ≡ j = omega arith in subst (Qualifies D s ws target) e first_qualifies)

  pub explained_maximal : AreMaximalRuns (explained_runs D s ws target)
      (InLevelSet D s ws (stop_level D s ws target))
  unfolding explained_runs
  explained_maximal =
      level_runs_maximal D s ws Comes tree laws (stop_level D s ws target) stops.within

  -- a code of the explained runs is one of the tree's
  pub held : (c : ℕ) → HasNumber (explained_runs D s ws target) c → HasCode s s.root c
  held c has =
      let level = (explained_maximal.exact c).0 has in
      inside_out D s ws Comes tree (stop_level D s ws target) s.root c tree.root_comes
      (omega (arith, tree.root_level, stops.within))
      (below_from_path D s ws (stop_level D s ws target) s.root c level.0 level.1 level.2)

  pub covered : (c : ℕ) (path : List ℕ) → IsNodeOfCode D s c path
      → meets D ws (s.reach (walk s s.root path)) ≡ true
      → HasNumber (explained_runs D s ws target) c
  covered c path at meet =
      let deep : length path ≤ s.depth =
      ⊎_elim (λ h. omega (arith, h.0)) (λ h. omega (arith, h.0)) at.stands in
      (explained_maximal.exact c).1
      (cut_covers D s ws Comes tree (stop_level D s ws target) s.root path c tree.root_comes
      (omega (arith, deep, tree.root_level)) at.members
      (⊎_elim (λ h. inl (h.1, omega (arith, h.0, stops.within))) (λ h. inr h.1) at.stands) meet)

  pub tight : (c : ℕ) → stop_level D s ws target ≡ s.depth
      → HasNumber (explained_runs D s ws target) c
      → (path : List ℕ) × IsNodeOfCode D s c path
      × (meets D ws (s.reach (walk s s.root path)) ≡ true)
  tight c deep has = subst (λ l. InLevelSet D s ws l c) deep ((explained_maximal.exact c).0 has)
