pub mod Better
pub mod Entries
pub mod Fresh
pub mod Keys
pub mod Places
pub mod Spare
