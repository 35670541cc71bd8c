-- The laws of specs/Pages.antt, and the proofs of src/pages.rt.
pub mod Laws
