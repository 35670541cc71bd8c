-- The image of a state.
pub mod Image
pub mod Sections
pub mod Pages
pub mod Options
pub mod Writing
