-- Lists of calls with a directory: read Calls, Board, Paper, and then Handed, which says what is promised of blocks.
pub mod Calls
pub mod Board
pub mod Paper
pub mod Cause
pub mod Handed
