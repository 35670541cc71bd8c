-- The two editions beside each other.
pub mod Editions
