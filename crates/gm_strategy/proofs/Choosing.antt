-- The choice is an index that applies, at its cost, and none of the enabled ones costs less.
use Rattle.std.proofs.Common.{◌≡◌, ℕ, ◌+◌, ◌≤◌, ◌<◌, Bool, true, false, List, [], ◌∷◌, ◌++◌, refl}
use Rattle.std.proofs.Common.{sym, ap, ◌∙◌, arith, Option, Some, None, cond, ltb, inl, inr, ◌⊎◌}
use Rattle.std.proofs.Common.{length, subst}
use Rattle.std.proofs.lemmas.Bool.{ltb-true}
use Rattle.std.proofs.lemmas.Bool.Decides.{nat_tests}
use Rattle.std.proofs.lemmas.List.Elements.{All-from_recursion}
use Rattle.std.specs.List.{fold, All, AllByRecursion}
use Rattle.std.specs.Prelude.{IfSome, filter}
use Rattle.gm_types.specs.declared.index.IndexKind.{IndexKind}
use Rattle.gm_types.specs.declared.index.IndexKind.TheVariants.{Id, Z2, Z3, Xz2, Xz3}
use Rattle.gm_types.specs.Index.{enabled_indexes, has_index, attribute_indexes}
use Rattle.gm_types.specs.Specification.{Specification}
use Rattle.gm_filter.specs.Suitability.{Suits}
use Rattle.gm_filter.specs.Tree.{Tree}
use Rattle.gm_bounds.specs.Applicability.{does_apply}
use Rattle.gm_strategy.specs.declared.choice.Choice.{Choice}
use Rattle.gm_strategy.specs.Choice.{chosen, choice, cheaper, choice_of, chosen_for, IsServed}
use Rattle.gm_strategy.specs.Choice.{CostsAtLeast, IsFirstOfLeast}
use Rattle.gm_strategy.specs.Cost.{price_of, cost_of}

where_known : (b : Bool) (price cost : ℕ) → cond b (Some price) None ≡ Some cost → b ≡ true
where_known true price cost h = refl
where_known false price cost h = absurd (cc)

pub served : (s : Specification) (kind : IndexKind) (cost : ℕ) (t : Tree) → Suits s t
    → cost_of s kind t ≡ Some cost → IsServed s (chosen kind cost t)
served s kind cost t suit h =
    record {
      suits = suit;
      applies = where_known (does_apply s kind t) (price_of s kind t) cost h;
      costs = h;
    }

module _ (s : Specification) (t : Tree) where
  cheaper_costs_where : (held : Choice) (kind : IndexKind) (cost : ℕ) (b : Bool)
      → cost_of s held.kind t ≡ Some held.cost → cost_of s kind t ≡ Some cost
      → let c = cond b (choice kind cost) held in cost_of s c.kind t ≡ Some c.cost
  cheaper_costs_where held kind cost true h g = g
  cheaper_costs_where held kind cost false h g = h

  cheaper_costs : (held : Choice) (kind : IndexKind) (o : Option ℕ)
      → cost_of s held.kind t ≡ Some held.cost → cost_of s kind t ≡ o
      → let c = cheaper held kind o in cost_of s c.kind t ≡ Some c.cost
  cheaper_costs held kind None h g = h
  cheaper_costs held kind (Some cost) h g =
      cheaper_costs_where held kind cost (ltb cost held.cost) h g

  fold_costs : (kinds : List IndexKind) (held : Choice) → cost_of s held.kind t ≡ Some held.cost
      → let c = fold (λ (held : Choice) (kind : IndexKind). cheaper held kind (cost_of s kind t))
      held kinds in cost_of s c.kind t ≡ Some c.cost
  fold_costs [] held h = h
  fold_costs (kind ∷ kinds) held h =
      fold_costs kinds (cheaper held kind (cost_of s kind t))
      (cheaper_costs held kind (cost_of s kind t) h refl)

  pub choice_served : Suits s t → IsServed s (chosen_for s t)
  choice_served suit =
      served s (choice_of s t).kind (choice_of s t).cost t suit
      (fold_costs (enabled_indexes s) (choice Id (price_of s Id t)) refl)

-- ---- the first of least cost

module _ (s : Specification) (t : Tree) where
  abbrev step : Choice → IndexKind → Choice
  step held kind = cheaper held kind (cost_of s kind t)

  abbrev AllAtLeast : ℕ → List IndexKind → Type 0
  AllAtLeast least kinds = AllByRecursion (CostsAtLeast least s t) kinds

  -- what is chosen is what was held, or stands among the others and costs less
  record IsFound (held : Choice) (kinds : List IndexKind) (found : Choice) : Type 0 where
    before : List IndexKind
    behind : List IndexKind
    place : kinds ≡ before ++ found.kind ∷ behind
    less : found.cost < held.cost
    more : AllAtLeast (found.cost + 1) before
    no_less : AllAtLeast found.cost behind

  record IsKept (held : Choice) (kinds : List IndexKind) (found : Choice) : Type 0 where
    same : held ≡ found
    no_less : AllAtLeast held.cost kinds

  abbrev Outcome : Choice → List IndexKind → Choice → Type 0
  Outcome held kinds found = IsKept held kinds found ⊎ IsFound held kinds found

  further : (held now found : Choice) (kind : IndexKind) (kinds : List IndexKind)
      → CostsAtLeast (found.cost + 1) s t kind → found.cost < held.cost → IsFound now kinds found
      → IsFound held (kind ∷ kinds) found
  further held now found kind kinds costs less h = record {
    before = kind ∷ h.before;
    behind = h.behind;
    place = ap (λ ks. kind ∷ ks) h.place;
    less = less;
    more = (costs, h.more);
    no_less = h.no_less;
  }

  at_cost : (least : ℕ) (kind : IndexKind) (o : Option ℕ) → cost_of s kind t ≡ o
      → IfSome o (λ cost. least ≤ cost) → CostsAtLeast least s t kind
  at_cost least kind o is h = subst (λ p. IfSome p (λ cost. least ≤ cost)) (sym is) h

  after_lower : (held found : Choice) (kind : IndexKind) (cost : ℕ) (kinds : List IndexKind)
      → cost_of s kind t ≡ Some cost → cost < held.cost
      → Outcome (choice kind cost) kinds found → Outcome held (kind ∷ kinds) found
  after_lower held found kind cost kinds is lower (inl kept) = inr record {
    before = [];
    behind = kinds;
    place = ap (λ (c : Choice). c.kind ∷ kinds) kept.same;
    less = subst (λ (c : Choice). c.cost < held.cost) kept.same lower;
    more = tt;
    no_less = subst (λ (c : Choice). AllAtLeast c.cost kinds) kept.same kept.no_less;
  }
  after_lower held found kind cost kinds is lower (inr h) =
      let less = h.less in
      inr (further held (choice kind cost) found kind kinds
      (at_cost (found.cost + 1) kind (Some cost) is (omega (arith, less)))
      (omega (arith, less, lower)) h)

  after_higher : (held found : Choice) (kind : IndexKind) (cost : ℕ) (kinds : List IndexKind)
      → cost_of s kind t ≡ Some cost → held.cost ≤ cost
      → Outcome held kinds found → Outcome held (kind ∷ kinds) found
  after_higher held found kind cost kinds is higher (inl kept) =
      inl record {
        same = kept.same;
        no_less = (at_cost held.cost kind (Some cost) is higher, kept.no_less);
      }
  after_higher held found kind cost kinds is higher (inr h) =
      let less = h.less in
      inr (further held held found kind kinds
      (at_cost (found.cost + 1) kind (Some cost) is (omega (arith, less, higher))) less h)

  after_none : (held found : Choice) (kind : IndexKind) (kinds : List IndexKind)
      → cost_of s kind t ≡ None → Outcome held kinds found → Outcome held (kind ∷ kinds) found
  after_none held found kind kinds is (inl kept) =
      inl record { same = kept.same; no_less = (at_cost held.cost kind None is tt, kept.no_less) }
  after_none held found kind kinds is (inr h) =
      inr (further held held found kind kinds (at_cost (found.cost + 1) kind None is tt) h.less h)

  after_some : (held : Choice) (kind : IndexKind) (cost : ℕ) (kinds : List IndexKind)
      → cost_of s kind t ≡ Some cost → (b : Bool) → ltb cost held.cost ≡ b
      → ((now : Choice) → Outcome now kinds (fold step now kinds))
      → Outcome held (kind ∷ kinds) (fold step (cond b (choice kind cost) held) kinds)
  after_some held kind cost kinds is true test later =
      after_lower held _ kind cost kinds is (ltb-true cost held.cost test)
      (later (choice kind cost))
  after_some held kind cost kinds is false test later =
      after_higher held _ kind cost kinds is (not_lower cost held.cost test) (later held)
    where
      not_lower : (a b : ℕ) → ltb a b ≡ false → b ≤ a
      not_lower a b h = grind (arith, nat_tests)

  after_any : (held : Choice) (kind : IndexKind) (o : Option ℕ) (kinds : List IndexKind)
      → cost_of s kind t ≡ o
      → ((now : Choice) → Outcome now kinds (fold step now kinds))
      → Outcome held (kind ∷ kinds) (fold step (cheaper held kind o) kinds)
  after_any held kind None kinds is later = after_none held _ kind kinds is (later held)
  after_any held kind (Some cost) kinds is later =
      after_some held kind cost kinds is (ltb cost held.cost) refl later

  outcome : (kinds : List IndexKind) (held : Choice) → Outcome held kinds (fold step held kinds)
  outcome [] held = inl record { same = refl; no_less = tt }
  outcome (kind ∷ kinds) held = after_any held kind (cost_of s kind t) kinds refl (outcome kinds)

  enabled_after_first : (kinds : List IndexKind) × (enabled_indexes s ≡ Id ∷ kinds)
  unfolding enabled_indexes
  enabled_after_first =
      (filter (has_index s) (Z2 ∷ Z3 ∷ Xz2 ∷ Xz3 ∷ attribute_indexes 0 (length s.attributes)), refl)

  abbrev first : Choice
  first = choice Id (price_of s Id t)

  all_from : (least : ℕ) (kinds : List IndexKind) → AllAtLeast least kinds
      → All (CostsAtLeast least s t) kinds
  all_from least kinds h = All-from_recursion (CostsAtLeast least s t) kinds h

  first_by : (found : Choice) → cost_of s found.kind t ≡ Some found.cost
      → Outcome first (enabled_indexes s) found → IsFirstOfLeast s t (enabled_indexes s) found
  first_by found costs (inl kept) =
      let others = enabled_after_first in
      let all : AllAtLeast first.cost (Id ∷ others.0) =
      subst (AllAtLeast first.cost) others.1 kept.no_less in
      record {
        before = [];
        behind = others.0;
        place = others.1 ∙ ap (λ (c : Choice). c.kind ∷ others.0) kept.same;
        costs = costs;
        more = all_from (found.cost + 1) [] tt;
        no_less = all_from found.cost others.0
            (subst (λ (c : Choice). AllAtLeast c.cost others.0) kept.same all.1);
      }
  first_by found costs (inr h) = record {
    before = h.before;
    behind = h.behind;
    place = h.place;
    costs = costs;
    more = all_from (found.cost + 1) h.before h.more;
    no_less = all_from found.cost h.behind h.no_less;
  }

  pub choice_is_first : IsFirstOfLeast s t (enabled_indexes s) (choice_of s t)
  choice_is_first =
      first_by (choice_of s t) (fold_costs s t (enabled_indexes s) first refl)
      (outcome (enabled_indexes s) first)
