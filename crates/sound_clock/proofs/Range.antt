-- An update, a clock and a run keep a state typed and in range, and no sample is a NaN or negative zero.
pub mod Clock
pub mod Run
