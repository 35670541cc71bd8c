-- What every call keeps, and its refusals. Lists has the theorem on lists of calls.
pub mod Decided
pub mod Refused
pub mod Calls
pub mod Lists
pub mod Options
pub mod Runs
pub mod Images
pub mod Numbers
pub mod Zero
