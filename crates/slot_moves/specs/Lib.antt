pub mod CodeMoved
pub mod CodeMoves
