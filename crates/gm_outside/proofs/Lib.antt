pub mod NextBytes
