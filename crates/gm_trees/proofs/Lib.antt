mod CellNodes
mod Cells
mod Numbering
mod Objects
mod Spelling
