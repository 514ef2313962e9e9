pub mod Blocks
pub mod Flat
pub mod Lengths
pub mod Line
pub mod RoundTrip
pub mod Tests
