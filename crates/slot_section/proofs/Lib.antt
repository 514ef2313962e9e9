pub mod Collecting
pub mod Crossed
pub mod Fields
pub mod Grouping
pub mod Marks
pub mod Walks
