-- Where there is no window, and which windows a reach meets.
use Rattle.std.proofs.Common.{◌≡◌, ⊎_elim, ℕ, zero, suc, ◌+◌, ◌*◌, ◌^◌, ◌<◌, List, [], ◌∷◌, length}
use Rattle.std.proofs.Common.{get_or, refl, sym, ap, ◌∙◌, subst, arith}
use Rattle.std.specs.Prelude.{true, Any}
use Rattle.std.proofs.lemmas.Bool.{or_cases, or_left, or_right, cond-true, and_from, le-leb}
use Rattle.gm_trees.specs.declared.node.Node.{Node}
use Rattle.gm_trees.specs.declared.window.Node3.{Node3}
use Rattle.gm_trees.specs.declared.window.Window.{Window}
use Rattle.gm_trees.specs.Tree.{Shape}
use Rattle.gm_split.specs.RunLaws.{RunLaws}
use Rattle.gm_split.specs.Windows.{overlaps, meets}
use Rattle.gm_split.specs.Levels.{partial_count}
use Rattle.gm_split.specs.Explained.{in_level, level_runs, qualifies, stop_from, stop_level}
use Rattle.gm_split.specs.Explained.{explained_runs}
use Rattle.gm_split.proofs.Below.{InBelow, sum_zero}
use Rattle.gm_split.proofs.Answered.{in_level_gives}

-- ---- the windows that a reach meets
pub one_overlaps : (D : ℕ) (r : Node3 × Node3) (ws : List Window) → meets D ws r ≡ true
    → Any (λ w. overlaps D r w ≡ true) ws
one_overlaps D r [] h = absurd cc
one_overlaps D r (w ∷ ws) h =
    ⊎_elim (λ here. (0, w, (omega arith), refl, here))
    (λ there. let more = one_overlaps D r ws there in
    (suc more.0, more.1, (let less = more.2 in omega arith), more.3, more.4))
    (or_cases (overlaps D r w) (meets D ws r) h)

meets_at : (D : ℕ) (r : Node3 × Node3) (ws : List Window) (k : ℕ) (x : Window) → k < length ws
    → get_or ws k x ≡ x → overlaps D r x ≡ true → meets D ws r ≡ true
meets_at D r [] k x less at h = absurd (omega arith)
meets_at D r (w ∷ ws) zero x less at h =
    or_left (overlaps D r w) (meets D ws r) (subst (λ v. overlaps D r v ≡ true) (sym at) h)
meets_at D r (w ∷ ws) (suc k) x less at h =
    or_right (overlaps D r w) (meets D ws r) (meets_at D r ws k x (omega arith) at h)

pub meets_one : (D : ℕ) (r : Node3 × Node3) (ws : List Window) → Any (λ w. overlaps D r w ≡ true) ws
    → meets D ws r ≡ true
meets_one D r ws some = meets_at D r ws some.0 some.1 some.2 some.3 some.4

-- ---- no window
module _ (D : ℕ) (s : Shape) where
  no_level : (k : ℕ) (n : Node) (c : ℕ) → InBelow D s [] k n c → ⊥
  no_level zero n c h = let e = h.1 in absurd cc
  no_level (suc k) n c h =
      ⊎_elim (λ own. let e = own.1 in absurd cc)
      (λ below. no_level k (s.child n below.0) c below.2) h

  no_partial : (k : ℕ) (n : Node) → partial_count D s [] k n ≡ 0
  no_partial zero n = refl
  no_partial (suc k) n =
      sum_zero (2 ^ D) (λ q. partial_count D s [] k (s.child n q))
      (λ q few. no_partial k (s.child n q))

  module _ (laws : RunLaws) where
    no_level_runs : (l : ℕ) → level_runs D s [] l ≡ []
    unfolding level_runs
    no_level_runs l =
        let runs = laws.maximal (in_level D s [] l s.root) (s.last s.root + 1) in
        laws.one _ [] runs.apart tt
        (λ c. (
          (λ h. no_level l s.root c
              (in_level_gives D s [] l s.root c ((runs.exact c).0 h).1)),
          (λ h. absurd h),
        ))

    all_qualify : (target l : ℕ) → qualifies D s [] target l ≡ true
    all_qualify target l =
        let none = ap length (no_level_runs l) in
        and_from _ _ (le-leb (length (level_runs D s [] l)) target (omega (arith, none)))
        (le-leb (partial_count D s [] l s.root) (4 * target)
        (omega (arith, no_partial l s.root)))

    to_the_end : (target k l : ℕ) → stop_from D s [] target k l ≡ l + k
    unfolding stop_from
    to_the_end target zero l = omega arith
    to_the_end target (suc k) l =
        cond-true (qualifies D s [] target (l + 1)) _ _ (all_qualify target (l + 1))
        ∙ to_the_end target k (l + 1) ∙ omega arith

    pub whole_depth : (target : ℕ) → stop_level D s [] target ≡ s.depth
    unfolding stop_level
    whole_depth target = to_the_end target s.depth 0 ∙ omega arith

    pub no_runs : (target : ℕ) → explained_runs D s [] target ≡ []
    unfolding explained_runs
    no_runs target = no_level_runs (stop_level D s [] target)
