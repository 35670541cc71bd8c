-- Laws of the definitions.
pub mod Words
pub mod Decimal
pub mod Out
pub mod Hex
pub mod Number
pub mod Wide
