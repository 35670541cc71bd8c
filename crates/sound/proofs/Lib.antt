pub mod Floats
pub mod Every
