pub mod Ending
pub mod FromBytes
