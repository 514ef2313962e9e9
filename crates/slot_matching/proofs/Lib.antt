pub mod Numbers
pub mod Left
pub mod Asking
pub mod After
pub mod Found
