-- The rows of a table.
use Rattle.std.specs.Prelude.{ℕ, Bool, not, ◌&&◌, List, Option, filter}
use Rattle.std.specs.Ordering.{nat_cmp, is_le}
use Rattle.std.specs.Cmp.Lexicographic.{slice_cmp}
use Rattle.std.specs.Map.{lookup, keys_of}
use Rattle.std.specs.BTreeMap.{is_at}
use Rattle.std.specs.FinMap.{FinMap}
use Rattle.std.specs.List.Sorted.{IsStrictlySortedBy, IsStrictlySortedBy-prop}

-- pairs of a key and its bytes
abbrev pub Rows : Type 0
Rows = List (List ℕ × List ℕ)

-- a finite map from key to bytes, whose entries are rows
abbrev pub RowMap : Type 0
RowMap = FinMap (slice_cmp nat_cmp) (List ℕ)

-- each key is below the next, byte by byte, where a front of a key is below it
abbrev pub IsRising : Rows → Type 0
IsRising rows = IsStrictlySortedBy (slice_cmp nat_cmp) (keys_of rows)

pub IsRising-prop : (rows : Rows) → IsProp (IsRising rows)
IsRising-prop rows = IsStrictlySortedBy-prop (slice_cmp nat_cmp) (keys_of rows)

-- the bytes at a key
abbrev pub at_key : List ℕ → Rows → Option (List ℕ)
at_key key rows = lookup (is_at (slice_cmp nat_cmp key)) rows

-- low <= key < high
abbrev pub is_within : List ℕ → List ℕ → List ℕ → Bool
is_within low high key =
    is_le (slice_cmp nat_cmp low key) && not (is_le (slice_cmp nat_cmp high key))

-- the rows whose keys are within
abbrev pub between : List ℕ → List ℕ → Rows → Rows
between low high rows = filter (λ row. is_within low high row.0) rows
