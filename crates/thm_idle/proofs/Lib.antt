pub mod Cases
pub mod Idle
