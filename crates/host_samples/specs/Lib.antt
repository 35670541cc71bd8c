-- A run's samples as a host gets them.
pub mod Samples
