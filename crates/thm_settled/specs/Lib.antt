-- What is claimed of the type of a board.
pub mod Settled
