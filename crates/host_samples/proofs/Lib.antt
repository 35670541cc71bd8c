-- Laws are what the proofs of src/lib.rt and of host_state's run rest on.
pub mod Laws
