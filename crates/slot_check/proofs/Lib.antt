pub mod Accepted
pub mod Handed
pub mod Heads
pub mod Parts
pub mod Sections
pub mod Slots
