pub mod Lists
pub mod Moves
pub mod Pins
pub mod Asks
pub mod Batch
