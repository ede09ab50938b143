-- What is collected of features by their identifiers.
use Rattle.std.specs.Prelude.{◌≡◌, ℕ, if◌then◌else◌, List, [], ◌∷◌, length, Option, Some, None}
use Rattle.std.specs.List.{list_any}
use Rattle.std.specs.Ordering.{nat_cmp}
use Rattle.std.specs.Cmp.Lexicographic.{slice_cmp}
use Rattle.std.specs.BTreeMap.{insert_entry}
use Rattle.std.specs.FinMap as map
use Rattle.gm_feature.specs.declared.feature.Feature.{Feature}
use Rattle.gm_feature.specs.declared.value.Value.{Value}
use Rattle.gm_filter.specs.Tree.{Tree}
use Rattle.gm_filter.specs.Truth.{is_true}
use Rattle.gm_engine_rows.specs.State.{State, feature_at}

-- values by their identifiers, in the order of these
abbrev pub Collected : Type 0
Collected = List (List ℕ × List Value)

-- the features are put among those that were collected
abbrev pub collected : Collected → List Feature → Collected
collected held [] = held
collected held (f ∷ fs) = collected (insert_entry (slice_cmp nat_cmp) held f.id f.values) fs

abbrev pub feature_of : List ℕ × List Value → Feature
feature_of e = record { id = e.0; values = e.1 }

-- the feature's values, where one of the filters is true of it
abbrev pub values_if : List Tree → Option Feature → Option (List Value)
values_if tests None = None
values_if tests (Some f) = if list_any (λ test. is_true f test) tests then Some f.values else None

-- at each identifier stands the feature of the type with that number, where one of the filters is
-- true of it
pub record Collects (s : State) (n : ℕ) (tests : List Tree) (held : Collected) : Type 0 where
  pub values : map.FinMap (slice_cmp nat_cmp) (List Value)
  pub entries : held ≡ map.entries values
  pub at : (id : List ℕ) → map.get values id ≡ values_if tests (feature_at n id s)

-- so many stand there
pub record Counts (s : State) (n : ℕ) (tests : List Tree) (count : ℕ) : Type 0 where
  pub held : Collected
  pub collects : Collects s n tests held
  pub are : count ≡ length held
