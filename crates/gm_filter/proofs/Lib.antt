pub mod Characters
pub mod Fronts
pub mod Seen
pub mod Steps
pub mod Suiting
pub mod Trees
pub mod Trials
pub mod Truths
