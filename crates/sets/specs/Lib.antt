pub mod Code
pub mod Sets
