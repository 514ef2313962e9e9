pub mod Code
pub mod Reading
