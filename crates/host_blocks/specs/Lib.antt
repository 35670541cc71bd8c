-- The host's calls with a directory on a state.
pub mod HostBlocks
