pub mod Departing
pub mod Exchange
pub mod Firsts
pub mod Sending
pub mod Staying
