pub mod Arriving
pub mod Insert
pub mod OneByOne
pub mod Opening
pub mod Typed
