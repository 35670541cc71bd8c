-- The laws of specs/Words.antt, and the proofs of src/words.rt.
pub mod Laws
