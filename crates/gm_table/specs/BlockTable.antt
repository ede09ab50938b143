-- A table as its blocks.
use Rattle.std.specs.Prelude.{List}
use Rattle.gm_table.specs.declared.row.Row.{Row}
use Rattle.gm_table.specs.declared.blocks.table.BlockTable.{BlockTable}
use Rattle.gm_table.specs.Blocks.{lists_of}

-- the rows of each block, in order
abbrev pub blocks_of : BlockTable → List (List Row)
blocks_of table = lists_of table.list.items
