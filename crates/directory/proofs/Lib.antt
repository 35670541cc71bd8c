-- The laws: Registered and Dropped (what calls keep and what a lookup finds), Found (a lookup without its tests), Sound (refusal 2, both
-- ways), Ordered (a directory in order is fit), InOrder (it stays in order), Pages (the mask of a block). Refused, Put, Drop, Marks, Places
-- and Bits serve the proofs of the code. Cases has worked results.
pub mod Laws
pub mod Cases
