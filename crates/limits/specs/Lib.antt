pub mod Limits
pub mod Every
