-- Laws of the writes.
pub mod Kept
pub mod Steps
