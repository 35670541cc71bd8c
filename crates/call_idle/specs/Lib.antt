-- When the clocks of a run that remain alter nothing.
pub mod Idle
