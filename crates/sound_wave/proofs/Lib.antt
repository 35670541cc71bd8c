pub mod Floats
pub mod Range
