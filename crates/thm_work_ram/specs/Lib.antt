-- The Rust's mapping of work RAM, and what the zero page holds.
pub mod Rust
pub mod ZeroPage
