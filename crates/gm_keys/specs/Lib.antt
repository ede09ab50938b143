pub mod Cell
pub mod Whereabouts
pub mod Key
pub mod Layout
