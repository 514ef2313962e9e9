pub mod CodeOptions
pub mod Lists
pub mod Order
