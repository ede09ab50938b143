-- What a batch makes of a table's rows.
use Rattle.std.specs.Prelude.{ℕ, Bool, true, not, ◌&&◌, List, [], ◌∷◌, Option, Some, None}
use Rattle.std.specs.Prelude.{if◌then◌else◌}
use Rattle.std.specs.List.{list_any}
use Rattle.std.specs.Ordering.{nat_cmp}
use Rattle.std.specs.Cmp.Lexicographic.{slice_cmp}
use Rattle.std.specs.BTreeMap.{is_at}
use Rattle.gm_table.specs.declared.row.Row.{Row}

-- whether the key is one of these
abbrev pub has_key : List ℕ → List (List ℕ) → Bool
has_key key keys = list_any (is_at (slice_cmp nat_cmp key)) keys

-- no two keys are equal
abbrev pub are_distinct : List (List ℕ) → Bool
are_distinct [] = true
are_distinct (key ∷ keys) = not (has_key key keys) && are_distinct keys

-- what a key has where these rows are put in, and it had `before`: the bytes of its row, and else
-- what it had
abbrev pub put_at : List ℕ → List Row → Option (List ℕ) → Option (List ℕ)
put_at key [] before = before
put_at key (put ∷ puts) before =
    put_at key puts (if is_at (slice_cmp nat_cmp key) put.key then Some put.bytes else before)

-- what a key has after a batch: nothing where it is removed, and else what the puts make of it
abbrev pub applied_at : List ℕ → List (List ℕ) → List Row → Option (List ℕ) → Option (List ℕ)
applied_at key removes puts before = if has_key key removes then None else put_at key puts before
