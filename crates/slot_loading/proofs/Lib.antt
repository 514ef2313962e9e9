pub mod Buffers
pub mod Crossing
pub mod Heading
pub mod Loaded
pub mod Sorting
pub mod Walk
