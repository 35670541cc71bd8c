pub mod Audio
pub mod Registers
pub mod Levels
pub mod Range
