pub mod Keeps
pub mod Demand3
pub mod Lawful
pub mod Cause
pub mod Handed
pub mod Always
