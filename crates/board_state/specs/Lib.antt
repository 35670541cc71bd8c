-- The state, and all that is known of it.
pub mod State
pub mod None
