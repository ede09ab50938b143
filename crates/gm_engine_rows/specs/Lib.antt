pub mod State
pub mod Rows
pub mod Change
pub mod Exchange
