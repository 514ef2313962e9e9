pub mod Candidates
pub mod Choice
pub mod Known
pub mod Scans
pub mod Walk
pub mod Walked
