pub mod CodeHeldPlace
pub mod HostCalls
