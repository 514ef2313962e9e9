pub mod Driver
pub mod Engines
pub mod Slots
pub mod Taking
pub mod Turns
