-- The bytes of the parts of a block.
use Rattle.std.specs.Prelude.{◌<◌, ◌^◌, ℕ, List, [], ◌∷◌, ◌++◌, length}
use Rattle.std.specs.Int.{to_be_bytes, w32}
use Rattle.gm_table.specs.declared.row.Row.{Row}

-- a length in four bytes, the greatest first, and so many bytes
abbrev pub part_bytes : List ℕ → List ℕ
part_bytes part = to_be_bytes w32 (length part) ++ part

-- a key, and the bytes at it
abbrev pub row_bytes : Row → List ℕ
row_bytes row = part_bytes row.key ++ part_bytes row.bytes

abbrev pub rows_bytes : List Row → List ℕ
rows_bytes [] = []
rows_bytes (row ∷ rows) = row_bytes row ++ rows_bytes rows

-- a length in four bytes is one of these
abbrev pub IsShort : Row → Type 0
IsShort row = (length row.key < 2 ^ 32) × (length row.bytes < 2 ^ 32)
