pub mod Order
pub mod Flips
pub mod Fronts
pub mod Raising
pub mod KnownValues
