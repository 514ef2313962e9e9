pub mod Lines
pub mod Records
pub mod Sent
