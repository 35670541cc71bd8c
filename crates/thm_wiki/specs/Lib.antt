-- The wiki's words: registers, counter, sound and port, and the machine that they make. Beside it: what is noted where the board departs,
-- the board in the wiki's terms, the steps of public calls, and what agreement is.
pub mod Registers
pub mod Counter
pub mod Sound
pub mod Port
pub mod Machine
pub mod Notes
pub mod Shown
pub mod Lists
pub mod Protection
pub mod Agrees
