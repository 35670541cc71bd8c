-- The laws of specs/Clock.antt, and the proofs of src/clock.rt.
pub mod Laws
