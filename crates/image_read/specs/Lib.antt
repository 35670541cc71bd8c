-- The state that an image holds.
pub mod Reading
pub mod Sections
pub mod Pages
pub mod Older
