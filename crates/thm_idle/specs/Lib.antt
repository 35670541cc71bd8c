-- Runs of each kind, with the clocks that they make.
pub mod Cases
