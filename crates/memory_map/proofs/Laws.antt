-- Laws of the definitions: windows, and what each step keeps of a memory.
pub mod Windows
pub mod Memory
