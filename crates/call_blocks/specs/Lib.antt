-- The calls with a directory.
pub mod Blocks
