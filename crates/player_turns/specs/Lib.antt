pub mod Code
pub mod Driver
pub mod Turns
