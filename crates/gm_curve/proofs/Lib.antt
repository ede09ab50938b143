pub mod Bits
pub mod Blocks
pub mod Codes
pub mod Gathered
pub mod Interleaved
pub mod Levels
pub mod Places
pub mod Rows
