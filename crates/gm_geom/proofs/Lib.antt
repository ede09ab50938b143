pub mod Extents
pub mod Lists
pub mod Numbers
pub mod Places
pub mod RoundTrip
pub mod Spelled
pub mod Pieces
