-- The board's memory, over the types that src/ declares.
pub mod Page
pub mod Layout
pub mod Memory
pub mod Mirroring
pub mod Range
pub mod Mask
pub mod Changes
