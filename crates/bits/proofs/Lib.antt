-- Fields, words/Laws and cursor/Laws are the laws of the definitions of those names; RoundTrip has both round trips between fields and
-- bytes.
pub mod Fields
pub mod Lists
pub mod RoundTrip
