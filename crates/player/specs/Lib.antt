pub mod Code
pub mod CodeWindow
pub mod Program
