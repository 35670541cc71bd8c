pub mod Clock
pub mod Run
