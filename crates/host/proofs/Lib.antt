-- Refused says when each call is refused, Words what an answer's bits hold. Laws are what the proofs of src/lib.rt rest on, WithDirectory
-- what those of src/blocks.rt do, that a find answers what a lookup does, and what each call leaves of the places.
pub mod Laws
pub mod WithDirectory
pub mod Refused
pub mod Words
