-- The laws of specs/Calls.antt, and the proofs of src/calls.rt.
pub mod Laws
