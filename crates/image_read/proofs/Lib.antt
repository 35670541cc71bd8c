-- RoundTrip has the promises. The other files are the laws that they and the proofs of src/ rest on.
pub mod Arrays
pub mod Fields
pub mod Parts
pub mod Sections
pub mod Out
pub mod Known
pub mod Accepted
pub mod Values
pub mod States
pub mod RoundTrip
pub mod Older
