pub mod Contents
pub mod Fields
pub mod Fitting
mod KnownBytes
pub mod Kept
pub mod Leaps
pub mod Loop
pub mod Seen
pub mod Shapes
pub mod Sizes
pub mod Texts
pub mod Wholes
pub mod Widening
