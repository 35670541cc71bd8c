-- The type of a board through lists of calls, and lists that show why each condition is there.
pub mod Settled
pub mod Cases
