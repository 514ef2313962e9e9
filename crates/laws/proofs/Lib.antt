pub mod Compared
pub mod Count
pub mod Least
pub mod Lists
pub mod Numbers
pub mod Pairwise
pub mod Tests
