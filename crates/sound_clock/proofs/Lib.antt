pub mod Range
pub mod Cases
