-- What a part of a plan finds.
use Rattle.std.specs.Prelude.{◌≡◌, ◌⊎◌, true, List, [], ◌∷◌, ℕ, map, Some}
use Rattle.std.specs.List.{AllByRecursion}
use Rattle.gm_feature.specs.declared.feature.Feature.{Feature}
use Rattle.gm_filter.specs.Tree.{Tree}
use Rattle.gm_filter.specs.Truth.{is_true}
use Rattle.gm_strategy.specs.Choice.{Chosen}
use Rattle.gm_engine_rows.specs.State.{State, feature_at}

-- the feature is one of these
abbrev pub IsAmong : Feature → List Feature → Type 0
IsAmong f [] = ⊥
IsAmong f (g ∷ gs) = (f ≡ g) ⊎ IsAmong f gs

-- a feature of the type with that number, of which the filter is true
pub record IsTrueOf (s : State) (n : ℕ) (test : Tree) (f : Feature) : Type 0 where
  pub held : feature_at n f.id s ≡ Some f
  pub passes : is_true f test ≡ true

-- exactly these
pub record Finds (s : State) (n : ℕ) (test : Tree) (features : List Feature) : Type 0 where
  pub sound : AllByRecursion (IsTrueOf s n test) features
  pub whole : (f : Feature) → IsTrueOf s n test f → IsAmong f features

-- the filters of the parts
abbrev pub tests_of : List Chosen → List Tree
tests_of parts = map (λ part. part.wanted) parts
