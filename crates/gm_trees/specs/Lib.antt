pub mod Tree
pub mod Paths
pub mod Z
pub mod ZLaws
pub mod Xz
pub mod XzLaws
