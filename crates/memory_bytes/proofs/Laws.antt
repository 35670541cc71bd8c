-- Laws of the definitions.
pub mod Bytes
