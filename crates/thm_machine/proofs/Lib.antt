-- The theorem is in Demand3. Keeps says that the board keeps to `paper`, Counter and Touches are on the IRQ counter, Start on an accepted
-- load.
pub mod Keeps
pub mod Counter
pub mod Start
pub mod Touches
pub mod Demand3
pub mod Cases
