pub mod Busy
pub mod Net
