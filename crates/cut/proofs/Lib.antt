-- The theorem is in Demand3. Machine has the laws of single clocks, Cutting and Rising are on lists of calls, Counter on clocks that rise
-- at most once in a run, and Pinned shows what the claims rule out.
pub mod Machine
pub mod Cutting
pub mod Counter
pub mod Rising
pub mod Pinned
pub mod Demand3
pub mod Always
