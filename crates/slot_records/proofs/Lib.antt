pub mod Looking
pub mod Taking
