-- What steps keep: of the registers, of the page tables, and a clock.
pub mod Chip
pub mod Banking
pub mod Protection
pub mod Clock
pub mod Choice
