pub mod Typed
pub mod Range
