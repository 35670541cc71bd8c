-- The mapping, by the Rust's rule and without PRG-RAM; then lists of calls.
pub mod Mapping
pub mod Entries
pub mod Lists
