pub mod Branches
pub mod Choice
pub mod Cost
pub mod Strategy
