pub mod Pieces
pub mod SameText
pub mod Ticks
pub mod Written
