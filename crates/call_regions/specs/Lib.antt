-- The calls of the PPU, and those on regions.
pub mod Regions
