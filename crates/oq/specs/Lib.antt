pub mod Code
pub mod HostCalls
