-- What is chosen for a filter.
use Rattle.std.specs.Prelude.{◌≡◌, ◌+◌, ◌≤◌, ◌++◌, ◌∷◌, true, ℕ, nat_lt, if◌then◌else◌, fold, List}
use Rattle.std.specs.Prelude.{All, Option, Some, None, IfSome}
use Rattle.gm_types.specs.declared.index.IndexKind.{IndexKind}
use Rattle.gm_types.specs.declared.index.IndexKind.TheVariants.{Id}
use Rattle.gm_types.specs.Index.{enabled_indexes}
use Rattle.gm_types.specs.Specification.{Specification}
use Rattle.gm_filter.specs.Suitability.{Suits}
use Rattle.gm_filter.specs.Tree.{Tree, tree}
use Rattle.gm_bounds.specs.Applicability.{does_apply}
use Rattle.gm_strategy.specs.declared.part.Part.{Part}
use Rattle.gm_strategy.specs.declared.choice.Choice.{Choice}
use Rattle.gm_strategy.specs.Cost.{price_of, cost_of}

-- An index, its cost, and the filter that it is read for.
pub record Chosen : Type 0 where
  pub index : IndexKind
  pub cost : ℕ
  pub wanted : Tree

abbrev pub chosen : IndexKind → ℕ → Tree → Chosen
chosen index cost wanted = record { index = index; cost = cost; wanted = wanted }

-- that of a part
abbrev pub chosen_of : Part → Chosen
chosen_of part = chosen part.kind part.cost (tree part.filter)

abbrev pub choice : IndexKind → ℕ → Choice
choice kind cost = record { kind = kind; cost = cost }

-- an index in the place of the one held, where it applies and costs less
abbrev pub cheaper : Choice → IndexKind → Option ℕ → Choice
cheaper held kind None = held
cheaper held kind (Some cost) = if nat_lt cost held.cost then choice kind cost else held

-- the first of the enabled indexes of least cost; that of identifiers always applies
abbrev pub choice_of : Specification → Tree → Choice
choice_of s t =
    fold (λ held kind. cheaper held kind (cost_of s kind t))
    (choice Id (price_of s Id t)) (enabled_indexes s)

abbrev pub chosen_for : Specification → Tree → Chosen
chosen_for s t = chosen (choice_of s t).kind (choice_of s t).cost t

-- Its filter suits the type, and the index applies to it and costs what is said.
pub record IsServed (s : Specification) (part : Chosen) : Type 0 where
  pub suits : Suits s part.wanted
  pub applies : does_apply s part.index part.wanted ≡ true
  pub costs : cost_of s part.index part.wanted ≡ Some part.cost

-- where it applies
abbrev pub CostsAtLeast : ℕ → Specification → Tree → IndexKind → Type 0
CostsAtLeast least s t kind = IfSome (cost_of s kind t) (λ cost. least ≤ cost)

-- It costs what is said. The indexes before it cost more, where they apply, and those behind it no
-- less.
pub record IsFirstOfLeast (s : Specification) (t : Tree) (kinds : List IndexKind) (held : Choice)
    : Type 0 where
  pub before : List IndexKind
  pub behind : List IndexKind
  pub place : kinds ≡ before ++ held.kind ∷ behind
  pub costs : cost_of s held.kind t ≡ Some held.cost
  pub more : All (CostsAtLeast (held.cost + 1) s t) before
  pub no_less : All (CostsAtLeast held.cost s t) behind
