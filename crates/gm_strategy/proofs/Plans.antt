-- What is true of the parts of a plan.
use Rattle.std.proofs.Common.{◌≡◌, ℕ, zero, suc, get_or, ◌≤◌, ◌<◌, Bool, true, false, ◌&&◌, ◌||◌}
use Rattle.std.proofs.Common.{List, [], ◌∷◌, length, map, take, refl, ap, ◌∙◌, arith, Option, Some}
use Rattle.std.proofs.Common.{None, cond, eqb, subst}
use Rattle.std.proofs.lemmas.Bool.{and_parts, leb-true}
use Rattle.std.proofs.lemmas.List.Elements.{All-from_recursion}
use Rattle.std.proofs.lemmas.List.{length-map}
use Rattle.std.specs.List.{list_all, list_any, AllByRecursion, All}
use Rattle.std.specs.Borrow.{Bor}
use Rattle.std.specs.Prelude.{nat_le, option_map}
use Rattle.gm_base.proofs.Booleans.{or_false}
use Rattle.gm_types.specs.declared.index.IndexKind.{IndexKind}
use Rattle.gm_types.specs.Specification.{Specification}
use Rattle.gm_feature.specs.declared.feature.Feature.{Feature}
use Rattle.gm_filter.specs.Suitability.{Suits, suits}
use Rattle.gm_filter.specs.declared.filter.Filter.{Filter}
use Rattle.gm_filter.specs.Tree.{Tree, Trees, any, members_of, tree}
use Rattle.gm_filter.specs.Truth.{is_true}
use Rattle.gm_strategy.specs.Branches.{branches_of, trees_in}
use Rattle.gm_strategy.specs.Choice.{Chosen, chosen, choice_of, chosen_for, IsServed}
use Rattle.gm_strategy.specs.Cost.{cost_of}
use Rattle.gm_strategy.specs.Strategy.{is_bounded, is_split, parts_of, plan_of}
use Rattle.gm_strategy.proofs.Branching.{branches_decide, branches_suit, some_branch}
use Rattle.gm_strategy.proofs.Choosing.{served, choice_served}
use Rattle.gm_strategy.proofs.Gathering.{few}

-- ---- the plan with a hint

module _ (s : Specification) (t : Tree) (kind : IndexKind) where
  hinted_at : (P : List Chosen → Type 0) (parts : List Chosen) (o : Option ℕ) → cost_of s kind t ≡ o
      → option_map (λ cost. chosen kind cost t ∷ []) o ≡ Some parts
      → ((cost : ℕ) → cost_of s kind t ≡ Some cost → P (chosen kind cost t ∷ [])) → P parts
  hinted_at P parts None is h holds = absurd (cc)
  hinted_at P parts (Some cost) is h holds =
      let same : chosen kind cost t ∷ [] ≡ parts = cc in subst P same (holds cost is)

-- ---- the parts without one

split_or_whole : (P : List Chosen → Type 0) (s : Specification) (t : Tree) (b : Bool)
    → (b ≡ true → P (map (chosen_for s) (branches_of t))) → P (chosen_for s t ∷ [])
    → P (cond b (map (chosen_for s) (branches_of t)) (chosen_for s t ∷ []))
split_or_whole P s t true split whole = split refl
split_or_whole P s t false split whole = whole

-- what holds of a plan
in_plan : (P : List Chosen → Type 0) (s : Specification) (t : Tree) (hint : Option IndexKind)
    (parts : List Chosen)
    → (is_split s t ≡ true → P (map (chosen_for s) (branches_of t))) → P (chosen_for s t ∷ [])
    → ((kind : IndexKind) (cost : ℕ) → cost_of s kind t ≡ Some cost → P (chosen kind cost t ∷ []))
    → plan_of s t hint ≡ Some parts → P parts
in_plan P s t None parts split whole hinted h =
    let same : parts_of s t ≡ parts = cc in
    subst P same (split_or_whole P s t (eqb (choice_of s t).cost 7 && is_split s t)
    (λ e. split (and_parts (eqb (choice_of s t).cost 7) (is_split s t) e).1) whole)
in_plan P s t (Some kind) parts split whole hinted h =
    hinted_at s t kind P parts (cost_of s kind t) refl h (hinted kind)

-- ---- truth

module _ (s : Specification) (f : Feature) where
  chosen_decide : (ts : List Tree)
      → list_any (is_true f) ts ≡ list_any (λ part. is_true f part.wanted) (map (chosen_for s) ts)
  chosen_decide [] = refl
  chosen_decide (t ∷ ts) = ap (λ b. is_true f t || b) (chosen_decide ts)

pub parts_decide : ((f : Feature) (ts : Trees)
    → is_true f (any ts) ≡ list_any (is_true f) (members_of ts))
    → (s : Specification) (t : Tree) (hint : Option IndexKind) (parts : List Chosen)
    → plan_of s t hint ≡ Some parts
    → (f : Feature) → is_true f t ≡ list_any (λ part. is_true f part.wanted) parts
parts_decide either s t hint parts h f =
    in_plan (λ ps. is_true f t ≡ list_any (λ part. is_true f part.wanted) ps) s t hint parts
    (λ _. branches_decide f (either f) t ∙ chosen_decide s f (branches_of t))
    (or_false (is_true f t))
    (λ _ _ _. or_false (is_true f t))
    h

-- ---- what is read

module _ (s : Specification) where
  all_served : (ts : List Tree) → list_all (suits s) ts ≡ true
      → AllByRecursion (IsServed s) (map (chosen_for s) ts)
  all_served [] h = tt
  all_served (t ∷ ts) h = let parts = and_parts (suits s t) (list_all (suits s) ts) h in
      (choice_served s t parts.0, all_served ts parts.1)

  pub parts_served : (t : Tree) (hint : Option IndexKind) (parts : List Chosen) → Suits s t
      → plan_of s t hint ≡ Some parts → All (IsServed s) parts
  parts_served t hint parts suit h =
      in_plan (All (IsServed s)) s t hint parts
      (λ _. All-from_recursion (IsServed s) (map (chosen_for s) (branches_of t))
      (all_served (branches_of t) (branches_suit s t suit)))
      (All-from_recursion (IsServed s) (chosen_for s t ∷ []) (choice_served s t suit, tt))
      (λ kind cost is. All-from_recursion (IsServed s) (chosen kind cost t ∷ [])
      (served s kind cost t suit is, tt))
      h

  pub parts_few : (t : Tree) (hint : Option IndexKind) (parts : List Chosen) → Suits s t
      → plan_of s t hint ≡ Some parts → (1 ≤ length parts) × (length parts ≤ 8)
  parts_few t hint parts suit h =
      in_plan (λ ps. (1 ≤ length ps) × (length ps ≤ 8)) s t hint parts
      (λ e. let few =
      leb-true (length (branches_of t)) 8
      (and_parts (nat_le (length (branches_of t)) 8)
      (list_all (is_bounded s) (branches_of t)) e).0 in
      let some = some_branch s t suit in
      let long = length-map (branches_of t) (chosen_for s) in
      (omega arith, omega arith))
      (omega arith, omega arith)
      (λ _ _ _. (omega arith, omega arith))
      h

-- ---- the branches that are found

module _ (s : Specification) (t : Tree) where
  pub few_suit : (found : List Tree) → found ≡ take 9 (branches_of t) → length found ≤ 8 → Suits s t
      → list_all (suits s) found ≡ true
  few_suit found is h suit =
      ap (list_all (suits s)) (few (branches_of t) found is h) ∙ branches_suit s t suit

-- each of them suits
pub suit_at : (s : Specification) (found : List (Bor Filter)) (i : ℕ) (d : Bor Filter)
    → i < length found → list_all (suits s) (trees_in found) ≡ true
    → Suits s (tree (get_or found i d).now)
suit_at s [] i d within h = absurd (omega (arith, within))
suit_at s (f ∷ found) zero d within h =
    (and_parts (suits s (tree f.now)) (list_all (suits s) (trees_in found)) h).0
suit_at s (f ∷ found) (suc i) d within h =
    suit_at s found i d (omega (arith, within))
    (and_parts (suits s (tree f.now)) (list_all (suits s) (trees_in found)) h).1

-- one of them that is not bounded decides
pub unbounded_at : (s : Specification) (found : List (Bor Filter)) (i : ℕ) (d : Bor Filter)
    → i < length found → is_bounded s (tree (get_or found i d).now) ≡ false
    → list_all (is_bounded s) (trees_in found) ≡ false
unbounded_at s [] i d within h = absurd (omega (arith, within))
unbounded_at s (f ∷ found) zero d within h =
    ap (λ b. b && list_all (is_bounded s) (trees_in found)) h
unbounded_at s (f ∷ found) (suc i) d within h =
    and_false (is_bounded s (tree f.now)) (unbounded_at s found i d (omega (arith, within)) h)
  where
    and_false : (b : Bool) {c : Bool} → c ≡ false → (b && c) ≡ false
    and_false true e = e
    and_false false e = refl
