pub mod Shape
pub mod Value
pub mod Feature
pub mod Writer
pub mod Reader
pub mod Stored
