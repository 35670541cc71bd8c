pub mod Clock
pub mod Run
pub mod Exact
pub mod Cases
