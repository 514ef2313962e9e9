pub mod Ascii
pub mod Contents
pub mod Flat
pub mod Line
pub mod Lines
pub mod Piece
pub mod Reader
