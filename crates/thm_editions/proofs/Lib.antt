-- Outside: no entry shows a byte of the battery reserve. Editions: the theorem.
pub mod Outside
pub mod Editions
