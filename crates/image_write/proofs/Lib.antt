-- The laws of the image, and the proofs of src/.
pub mod Parts
pub mod Levels
pub mod Whole
