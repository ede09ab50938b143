-- The bytes of a block.
use Rattle.std.specs.Prelude.{◌≡◌, ◌≤◌, ℕ, List, [], ◌∷◌, ◌++◌, length, map, codes}
use Rattle.std.specs.Ordering.{nat_cmp}
use Rattle.std.specs.Cmp.Lexicographic.{slice_cmp}
use Rattle.std.specs.declared.cmp.Ordering.TheVariants.{Less}
use Rattle.std.specs.List.{AllByRecursion}
use Rattle.std.specs.Int.{to_be_bytes, w32}
use Rattle.gm_table.specs.Blocks.{most_rows}
use Rattle.gm_table.specs.declared.row.Row.{Row}
use Rattle.gm_table.specs.Sorted.{IsRising}
use Rattle.gm_block.specs.Parts.{rows_bytes, IsShort}

abbrev pub pair_of : Row → List ℕ × List ℕ
pair_of row = (row.key, row.bytes)

-- 1 to 4,096 rows whose keys rise
pub record IsBlock (rows : List Row) : Type 0 where
  pub some : 1 ≤ length rows
  pub few : length rows ≤ most_rows
  pub rising : IsRising (map pair_of rows)
  pub short : AllByRecursion IsShort rows

-- the mark of format 1, the number of rows in four bytes, and the rows
abbrev pub block_bytes : List Row → List ℕ
block_bytes rows = codes "GMBK0001" ++ (to_be_bytes w32 (length rows) ++ rows_bytes rows)

-- so many short rows whose keys rise, and the bytes that they spell
pub record AreRows (count : ℕ) (rows : List Row) (bytes : List ℕ) : Type 0 where
  pub count_is : length rows ≡ count
  pub rising : IsRising (map pair_of rows)
  pub short : AllByRecursion IsShort rows
  pub spelled : bytes ≡ rows_bytes rows

-- the last of the rows is below the key
abbrev pub IsAbove : List Row → List ℕ → Type 0
IsAbove [] key = Unit {0}
IsAbove (row ∷ []) key = slice_cmp nat_cmp row.key key ≡ Less
IsAbove (row ∷ other ∷ rows) key = IsAbove (other ∷ rows) key
