-- When the clocks of a run that remain alter nothing, for any clock.
pub mod Idle
