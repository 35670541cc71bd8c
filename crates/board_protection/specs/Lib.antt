-- Write protection of the 163.
pub mod Protection
