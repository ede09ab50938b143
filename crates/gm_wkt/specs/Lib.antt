pub mod Answer
pub mod Grammar
pub mod Printer
pub mod Reader
pub mod Starting
pub mod Value
pub mod Keyword
