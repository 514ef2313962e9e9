pub mod Matching
pub mod Stable
pub mod Shows
