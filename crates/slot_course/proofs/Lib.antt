pub mod Course
pub mod Numbers
pub mod Settling
pub mod Unmatched
