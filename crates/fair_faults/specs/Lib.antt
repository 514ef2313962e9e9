pub mod CodeFairFault
pub mod Lent
