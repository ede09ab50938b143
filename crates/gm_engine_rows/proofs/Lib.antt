pub mod Members
pub mod RowLaws
pub mod Changes
pub mod Distinct
pub mod Counts
pub mod Exchanges
