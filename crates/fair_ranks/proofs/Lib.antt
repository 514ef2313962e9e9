pub mod Ranks
pub mod Remembering
