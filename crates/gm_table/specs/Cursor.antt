-- Places in the rows of a map.
use Rattle.std.specs.Prelude.{◌≡◌, ℕ, List, [], ◌∷◌, ◌++◌, Option, Some, None, filter}
use Rattle.std.specs.Prelude.{if◌then◌else◌, true, ⊤}
use Rattle.std.specs.Ordering.{nat_cmp, is_le}
use Rattle.std.specs.Cmp.Lexicographic.{slice_cmp}
use denote.Ref.{Bor}
use Rattle.gm_table.specs.declared.cursor.Cursor.{Cursor}
use Rattle.gm_table.specs.Sorted.{Rows}

-- the rows at this key and after it
abbrev pub rows_from : List ℕ → Rows → Rows
rows_from low rows = filter (λ row. is_le (slice_cmp nat_cmp low row.0)) rows

-- the first rows, up to one at the key or after it
abbrev pub rows_below : List ℕ → Rows → Rows
rows_below high [] = []
rows_below high (row ∷ rows) =
    if is_le (slice_cmp nat_cmp high row.0) then [] else row ∷ rows_below high rows

-- the others
abbrev pub rows_after : List ℕ → Rows → Rows
rows_after high [] = []
rows_after high (row ∷ rows) =
    if is_le (slice_cmp nat_cmp high row.0) then row ∷ rows else rows_after high rows

-- a first row, where there is one, and the rest
abbrev pub pending : Option (Bor (List ℕ) × Bor (List ℕ)) → Rows → Rows
pending None rest = []
pending (Some row) rest = (row.0.now, row.1.now) ∷ rest

-- the rows from the cursor on are those from its key on
abbrev pub IsAt : Cursor → Rows → Type 0
IsAt cursor rows = pending cursor.place cursor.rest ≡ rows_from cursor.from.now rows

-- the place is no row below the key
abbrev pub IsClear : List ℕ → Option (Bor (List ℕ) × Bor (List ℕ)) → Type 0
IsClear key None = ⊤
IsClear key (Some row) = is_le (slice_cmp nat_cmp key row.0.now) ≡ true

-- these are the last of all rows
pub record IsLastOf (last all : Rows) : Type 0 where
  pub front : Rows
  pub parts : all ≡ front ++ last
