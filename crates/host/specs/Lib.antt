-- What the host's calls answer and leave, without a directory of blocks and with one.
pub mod Host
pub mod Blocks
