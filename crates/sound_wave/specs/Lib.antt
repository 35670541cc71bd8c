pub mod Channel
pub mod Mix
