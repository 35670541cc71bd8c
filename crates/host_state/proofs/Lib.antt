-- Laws are what the proofs of src/lib.rt rest on.
pub mod Laws
