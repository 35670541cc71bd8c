-- Laws of the definitions, a file for each of specs/; `Lists` has those of any list, `Typed` what the types say.
pub mod Page
pub mod Layout
pub mod Range
pub mod Typed
pub mod Mask
pub mod Changes
