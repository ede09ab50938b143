pub mod Lexicode
pub mod Ends
