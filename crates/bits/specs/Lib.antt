-- A7: fields of any widths as one number, bytes as one number, and a cursor of bits in a slice. No board is in it.
pub mod Fields
pub mod Words
pub mod Cursor
