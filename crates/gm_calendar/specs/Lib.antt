pub mod Bin
pub mod Calendar
pub mod Extent
pub mod Instant
pub mod Parts
pub mod Period
pub mod BinPlace
pub mod Spelling
