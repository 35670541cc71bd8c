-- The laws of specs/Cursor.antt, and the proofs of src/cursor.rt.
pub mod Laws
