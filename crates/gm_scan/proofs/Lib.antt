pub mod Adding
pub mod Apart
pub mod Holding
pub mod Reading
pub mod Testing
pub mod Visits
