pub mod Calls
pub mod CueCalls
pub mod Demand3
pub mod OlderCueCalls
pub mod Slots
