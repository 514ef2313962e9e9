pub mod Checked
pub mod Held
pub mod HostCalls
pub mod Older
pub mod Slots
