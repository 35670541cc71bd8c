-- The page tables by the registers.
pub mod Banking
