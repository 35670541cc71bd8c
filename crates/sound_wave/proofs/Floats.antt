-- Facts about f32 that the mix rests on.
pub mod Whole
pub mod Zero
