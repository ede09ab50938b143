pub mod Booleans
pub mod Buffers
pub mod Fronts
pub mod Identifiers
pub mod Lists
pub mod Numbers
pub mod Options
pub mod Published
