-- Rows in blocks.
use Rattle.std.specs.Prelude.{◌≡◌, ℕ, ◌<◌, ◌≤◌, zero, suc, List, [], ◌∷◌, ◌++◌, length, take, drop}
use Rattle.std.specs.Prelude.{map, slice_index_or}
use Rattle.std.specs.declared.cmp.Ordering.TheVariants.{Less}
use Rattle.std.specs.Cmp.Lexicographic.{slice_cmp}
use Rattle.std.specs.List.{AllByRecursion, AllByRecursion-prop}
use Rattle.std.specs.Map.{keys_of}
use Rattle.std.specs.Ordering.{nat_cmp}
use Rattle.std.specs.Coded.{×_prop, Unit-prop, le_prop, Coded-set, coded_ℕ}
use Rattle.gm_base.specs.Front.{AreBytes, IsFront, rest_of}
use Rattle.gm_table.specs.declared.row.Row.{Row}
use Rattle.gm_table.specs.declared.blocks.block.Block.{Block}
use Rattle.gm_table.specs.Cursor.{rows_from}
use Rattle.gm_table.specs.Sorted.{Rows, IsRising, IsRising-prop}

-- a row as those who see a table have it
abbrev pub pair_of : Row → List ℕ × List ℕ
pair_of row = (row.key, row.bytes)

abbrev pub pairs_of : List Row → Rows
pairs_of rows = map pair_of rows

-- the rows of blocks, one block after the other
abbrev pub rows_of : List (List Row) → Rows
rows_of [] = []
rows_of (rows ∷ blocks) = pairs_of rows ++ rows_of blocks

-- no block has more rows
abbrev pub most_rows : ℕ
most_rows = 4096

-- 1 to 4,096 rows
pub record IsSized (rows : List Row) : Type 0 where
  pub some : 1 ≤ length rows
  pub few : length rows ≤ most_rows

-- the key of the first row
abbrev pub first_key : List Row → List ℕ
first_key [] = []
first_key (row ∷ rows) = row.key

-- that many rows, and the number of the first bytes of the first key
pub record IsBlock (block : Block) : Type 0 where
  pub sized : IsSized block.rows
  pub front : IsFront block.front (first_key block.rows)

AreBytes-prop : (n : ℕ) (bytes : List ℕ) → IsProp (AreBytes n bytes)
AreBytes-prop zero bytes = Unit-prop
AreBytes-prop (suc n) bytes = ×_prop le_prop (AreBytes-prop n (rest_of bytes))

pub IsBlock-prop : (block : Block) → IsProp (IsBlock block)
IsBlock-prop block p q = λ i. record {
  sized = record
      { some = le_prop p.sized.some q.sized.some i; few = le_prop p.sized.few q.sized.few i };
  front = record {
    front = Coded-set coded_ℕ _ _ p.front.front q.front.front i;
    are_bytes = AreBytes-prop 16 (first_key block.rows) p.front.are_bytes q.front.are_bytes i;
  };
}

abbrev pub lists_of : List Block → List (List Row)
lists_of blocks = map (λ block. block.rows) blocks

abbrev pub AreBlocks : List Block → Type 0
AreBlocks blocks = AllByRecursion IsBlock blocks

pub AreBlocks-prop : (blocks : List Block) → IsProp (AreBlocks blocks)
AreBlocks-prop = AllByRecursion-prop IsBlock IsBlock-prop

-- the keys of the rows of all blocks rise
abbrev pub AreInOrder : List Block → Type 0
AreInOrder blocks = IsRising (rows_of (lists_of blocks))

pub AreInOrder-prop : (blocks : List Block) → IsProp (AreInOrder blocks)
AreInOrder-prop blocks = IsRising-prop (rows_of (lists_of blocks))

-- the rows of the block with that number from a row on
abbrev pub rows_at : ℕ → ℕ → List Block → Rows
rows_at n row [] = []
rows_at zero row (block ∷ blocks) = pairs_of (drop row block.rows) ++ rows_of (lists_of blocks)
rows_at (suc n) row (block ∷ blocks) = rows_at n row blocks

-- the rows before that
abbrev pub rows_until : ℕ → ℕ → List Block → Rows
rows_until n row [] = []
rows_until zero row (block ∷ blocks) = pairs_of (take row block.rows)
rows_until (suc n) row (block ∷ blocks) = pairs_of block.rows ++ rows_until n row blocks

-- the row of the place is one of its block, or the end of it; without a block it is the first place
abbrev pub IsPlace : ℕ → ℕ → List Block → Type 0
IsPlace n row [] = (n ≡ 0) × (row ≡ 0)
IsPlace zero row (block ∷ blocks) = row ≤ length block.rows
IsPlace (suc n) row (block ∷ []) = ⊥
IsPlace (suc n) row (block ∷ other ∷ blocks) = IsPlace n row (other ∷ blocks)

-- the rows from the place on are those from the key on
pub record IsAtKey (blocks : List Block) (key : List ℕ) (n row : ℕ) : Type 0 where
  pub place : IsPlace n row blocks
  pub rows : rows_at n row blocks ≡ rows_from key (rows_of (lists_of blocks))

-- a row of this key stands at the place
pub record IsRowAt (key : List ℕ) (n row : ℕ) (blocks : List Block) : Type 0 where
  pub within : n < length blocks
  pub inside : (d : Block) → row < length (slice_index_or blocks n d).rows
  pub has : (d : Block) (e : Row)
      → key ≡ (slice_index_or (slice_index_or blocks n d).rows row e).key

-- all keys of the first rows are below the key, and all of the others above it
pub record IsGap (key : List ℕ) (before after : Rows) : Type 0 where
  pub below : AllByRecursion (λ other. slice_cmp nat_cmp other key ≡ Less) (keys_of before)
  pub above : AllByRecursion (λ other. slice_cmp nat_cmp key other ≡ Less) (keys_of after)

-- the place is in a block that may have one row more
pub record HasRoom (n row : ℕ) (blocks : List Block) : Type 0 where
  pub within : n < length blocks
  pub inside : (d : Block) → row ≤ length (slice_index_or blocks n d).rows
  pub room : (d : Block) → length (slice_index_or blocks n d).rows < most_rows

-- two blocks in place of one, of which the first has so many of its rows
pub record IsCut (n count : ℕ) (before after : List Block) : Type 0 where
  pub first : Block
  pub second : Block
  pub parts : after ≡ take n before ++ first ∷ second ∷ drop (suc n) before
  pub first_rows : (d : Block) → first.rows ≡ take count (slice_index_or before n d).rows
  pub second_rows : (d : Block) → second.rows ≡ drop count (slice_index_or before n d).rows
