pub mod Flat
pub mod Writing
