pub mod Calls
pub mod Frame
pub mod Written
