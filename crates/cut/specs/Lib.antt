-- Demand 3 (D3.1 to D3.3, C10 to C20) over any board. Read Calls, Machine, Contract, Counter and Demand3, in this order.
pub mod Calls
pub mod Machine
pub mod Contract
pub mod Counter
pub mod Demand3
pub mod Always
