pub mod CodeFault
