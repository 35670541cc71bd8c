-- Facts about f32 that the sound rests on.
pub mod Sign
pub mod Bits
