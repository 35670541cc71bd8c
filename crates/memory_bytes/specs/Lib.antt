-- The bytes behind the memory's entries and in its regions.
pub mod Bytes
