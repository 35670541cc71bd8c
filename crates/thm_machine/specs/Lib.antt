-- Demand 3 (D3.1 to D3.3) of this board. Read Calls, Start, Paper, Board and Counter, in this order, and then proofs/Demand3.antt. Cases
-- has the table T.
pub mod Calls
pub mod Start
pub mod Paper
pub mod Board
pub mod Counter
pub mod Cases
