-- A known state and its arena.
pub mod Fit
pub mod Zero
