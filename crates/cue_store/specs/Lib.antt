pub mod Code
pub mod CodeOlder
pub mod Names
