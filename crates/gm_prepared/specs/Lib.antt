pub mod Edge
pub mod Band
pub mod Area
pub mod Standing
pub mod Placing
pub mod Prepared
