pub mod Faults
pub mod Records
pub mod Slots
pub mod Stored
