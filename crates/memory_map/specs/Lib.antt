-- What maps the memory's page tables.
pub mod Windows
pub mod Mirroring
pub mod New
