pub mod Limits
pub mod Every
pub mod Each
