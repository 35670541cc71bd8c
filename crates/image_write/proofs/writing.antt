-- The laws of specs/Writing.antt, and the proofs of src/writing.rt.
pub mod Laws
