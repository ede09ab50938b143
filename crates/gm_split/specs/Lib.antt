pub mod Explained
pub mod Front
pub mod Levels
pub mod Near
pub mod Opening
pub mod RunLaws
pub mod Windows
