pub mod Accord
pub mod Proposed
pub mod Refusing
pub mod Rounds
pub mod Matching
pub mod Renaming
