pub mod Code
pub mod Handed
