pub mod Geometry
pub mod Validity
pub mod Extent
pub mod Number
