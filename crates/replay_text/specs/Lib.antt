pub mod Words
pub mod Out
pub mod Hex
pub mod Decimal
pub mod Number
pub mod Adler
