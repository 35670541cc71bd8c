-- Laws of write protection.
pub mod Laws
