pub mod Answered
pub mod Answers
pub mod Arrivals
pub mod Pieces
pub mod Records
pub mod Whole
