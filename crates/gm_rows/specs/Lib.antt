pub mod Lines
pub mod Printer
pub mod Reader
