pub mod Ending
pub mod Requests
pub mod Window
