pub mod Player
pub mod Turn
