-- What a look before a write answers.
pub mod Preview
