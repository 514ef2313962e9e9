pub mod Best
pub mod Columns
pub mod Keys
pub mod Leaders
