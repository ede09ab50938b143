pub mod Curve
pub mod Listing
pub mod Scale
pub mod Spreading
pub mod Xz
