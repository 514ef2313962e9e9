pub mod CodeEnded
pub mod CodeLent
