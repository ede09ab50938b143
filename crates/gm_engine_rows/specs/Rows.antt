-- The rows of a state: all pairs of a key and the feature's bytes, over all types, features and
-- enabled indexes.
use Rattle.std.specs.Prelude.{◌≡◌, ℕ, true, List, map, Some}
use Rattle.std.specs.List.{flat_map}
use Rattle.std.specs.FinMap as features
use Rattle.gm_table.specs.Sorted.{Rows, RowMap}
use Rattle.gm_types.specs.declared.index.IndexKind.{IndexKind}
use Rattle.gm_types.specs.Index.{has_index}
use Rattle.gm_types.specs.Specification.{Specification}
use Rattle.gm_feature.specs.declared.feature.Feature.{Feature}
use Rattle.gm_feature.specs.Writer.{feature_bytes}
use Rattle.gm_keys.specs.Key.{key_of, keys_of}
use Rattle.gm_engine_rows.specs.State.{Features, State, type_at, feature_at}

-- those of one feature
abbrev pub rows_of_feature : Specification → Feature → Rows
rows_of_feature t feature = map (λ key. (key, feature_bytes feature)) (keys_of t feature)

-- those of all features of a type
abbrev pub rows_of_type : Specification → Features → Rows
rows_of_type t held = flat_map (λ e. rows_of_feature t e.1) (features.entries held)

-- all of them
abbrev pub all_rows : State → Rows
all_rows s = flat_map (λ c. rows_of_type c.specification c.features) s

-- by their keys
unfoldable pub row_map : State → RowMap
row_map s = features.from_entries (all_rows s)

-- and in the order of the keys
unfoldable pub rows_of : State → Rows
rows_of s = features.entries (row_map s)

-- the bytes are those of a feature of the state, and the key is its key in an enabled index
pub record IsRow (s : State) (key bytes : List ℕ) : Type 0 where
  pub number : ℕ
  pub specification : Specification
  pub id : List ℕ
  pub feature : Feature
  pub index : IndexKind
  pub typed : type_at number s ≡ Some specification
  pub held : feature_at number id s ≡ Some feature
  pub enabled : has_index specification index ≡ true
  pub keyed : key_of specification index feature ≡ Some key
  pub same : bytes ≡ feature_bytes feature
