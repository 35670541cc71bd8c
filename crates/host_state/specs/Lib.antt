-- What the host's calls answer and leave on a state.
pub mod HostState
