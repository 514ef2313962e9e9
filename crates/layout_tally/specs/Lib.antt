pub mod CodeCounted
pub mod Counted
