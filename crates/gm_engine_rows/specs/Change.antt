-- The change of rows where a feature takes the place of another, or comes, or goes.
use Rattle.std.specs.Prelude.{ℕ, not, List, [], filter, map, Option, Some, None}
use Rattle.gm_table.specs.declared.row.Row.{Row}
use Rattle.gm_table.specs.Batch.{has_key}
use Rattle.gm_types.specs.Specification.{Specification}
use Rattle.gm_feature.specs.declared.feature.Feature.{Feature}
use Rattle.gm_feature.specs.Writer.{feature_bytes}
use Rattle.gm_keys.specs.Key.{keys_of}

-- the keys of the feature, if there is one
abbrev pub keys_at : Specification → Option Feature → List (List ℕ)
keys_at t None = []
keys_at t (Some feature) = keys_of t feature

-- the keys of the old feature that the new one has not
abbrev pub removes_of : Specification → Option Feature → Option Feature → List (List ℕ)
removes_of t old new = filter (λ key. not (has_key key (keys_at t new))) (keys_at t old)

-- a row of the same bytes for each key
abbrev pub rows_with : List (List ℕ) → List ℕ → List Row
rows_with keys bytes = map (λ key. record { key = key; bytes = bytes }) keys

-- a row of the feature's bytes for each key of the new one
abbrev pub puts_of : Specification → Option Feature → List Row
puts_of t None = []
puts_of t (Some feature) = rows_with (keys_of t feature) (feature_bytes feature)
