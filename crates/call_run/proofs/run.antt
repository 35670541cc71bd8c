-- The laws of specs/Run.antt, and the proofs of src/run.rt.
pub mod Idle
pub mod Laws
pub mod Loop
