-- The plan of a filter: which indexes are read, and for which filters.
use Rattle.std.specs.Prelude.{ℕ, ◌==◌, ◌&&◌, Bool, nat_le, nat_lt, if◌then◌else◌, List, [], ◌∷◌}
use Rattle.std.specs.Prelude.{length, map, Option, Some, None, option_map}
use Rattle.std.specs.List.{list_all}
use Rattle.gm_types.specs.declared.index.IndexKind.{IndexKind}
use Rattle.gm_types.specs.Specification.{Specification}
use Rattle.gm_filter.specs.Tree.{Tree}
use Rattle.gm_strategy.specs.Branches.{branches_of}
use Rattle.gm_strategy.specs.Choice.{Chosen, chosen, choice_of, chosen_for}
use Rattle.gm_strategy.specs.Cost.{cost_of, dearest}

-- some index need not be read as a whole
abbrev pub is_bounded : Specification → Tree → Bool
is_bounded s t = nat_lt (choice_of s t).cost dearest

-- the most branches that a plan has
abbrev pub most_branches : ℕ
most_branches = 8

-- at most so many branches, each of which is bounded
abbrev pub is_split : Specification → Tree → Bool
is_split s t =
    nat_le (length (branches_of t)) most_branches && list_all (is_bounded s) (branches_of t)

-- one part, or where an index must be read as a whole, one for each branch if this helps
abbrev pub parts_of : Specification → Tree → List Chosen
parts_of s t =
    if (choice_of s t).cost == dearest && is_split s t
    then map (chosen_for s) (branches_of t)
    else chosen_for s t ∷ []

-- without a hint these parts; with one a part with that index, where it applies
abbrev pub plan_of : Specification → Tree → Option IndexKind → Option (List Chosen)
plan_of s t None = Some (parts_of s t)
plan_of s t (Some kind) = option_map (λ cost. chosen kind cost t ∷ []) (cost_of s kind t)
