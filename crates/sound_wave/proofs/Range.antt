-- A channel's phase stays below 2 ^ 24 and its level in the range of the choice; so does the mix of eight such levels.
pub mod Channel
pub mod Mix
