-- The board's registers, over the fields that src/namco163.rt declares.
pub mod Namco163
pub mod Reset
pub mod Load
pub mod Detection
pub mod Reads
pub mod Clock
