pub mod Branching
pub mod Choosing
pub mod Gathering
pub mod Plans
