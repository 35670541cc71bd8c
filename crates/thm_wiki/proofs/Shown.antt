-- What the board shows: the entries that `update_banks` makes, and that each call keeps them.
pub mod Tables
pub mod Steps
