-- What a question finds, reads and tells.
use Rattle.std.specs.Prelude.{ℕ, ◌+◌, List, [], ◌∷◌, ◌++◌, length, filter, map, count_by}
use Rattle.std.specs.FinMap as features
use Rattle.gm_table.specs.Sorted.{Rows}
use Rattle.gm_types.specs.Specification.{Specification}
use Rattle.gm_feature.specs.declared.feature.Feature.{Feature}
use Rattle.gm_filter.specs.Tree.{Tree}
use Rattle.gm_filter.specs.Truth.{is_true}
use Rattle.gm_engine_rows.specs.State.{State, features_of}
use Rattle.gm_plan.specs.KeyRanges.{key_ranges}
use Rattle.gm_plan.specs.Inside.{is_inside, read_spans}
use Rattle.gm_plan.specs.Lines.{lines_of}
use Rattle.gm_script.specs.Part.{part_text}
use Rattle.gm_strategy.specs.Choice.{Chosen}

-- the features of a type of which the filter is true, each once, in byte order of their identifiers
abbrev pub answer : ℕ → Tree → State → List Feature
answer n wanted s =
    filter (λ f. is_true f wanted) (map (λ e. e.1) (features.entries (features_of n s)))

-- how many rows have keys inside the ranges of a part
abbrev pub rows_read : Specification → ℕ → Rows → Chosen → ℕ
rows_read t target rows part =
    count_by (λ row. is_inside row.0 (read_spans t part.index part.wanted target)) rows

-- over all parts
abbrev pub rows_examined : Specification → ℕ → Rows → List Chosen → ℕ
rows_examined t target rows [] = 0
rows_examined t target rows (part ∷ parts) =
    rows_read t target rows part + rows_examined t target rows parts

-- the line of the part with this place, and those of its ranges
abbrev pub part_lines : Specification → ℕ → ℕ → Chosen → List (List ℕ)
part_lines t target part_number part =
    let ranges = key_ranges t part.index part.wanted target in
    part_text t part_number part.index part.cost ranges.shards (length ranges.ranges)
    ∷ lines_of ranges

-- those of the parts from a place on
abbrev pub plan_lines : Specification → ℕ → ℕ → List Chosen → List (List ℕ)
plan_lines t target part_number [] = []
plan_lines t target part_number (part ∷ parts) =
    part_lines t target part_number part ++ plan_lines t target (part_number + 1) parts
