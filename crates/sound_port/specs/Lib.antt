pub mod Lent
pub mod Block
