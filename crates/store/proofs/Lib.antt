pub mod Fronts
pub mod Stored
pub mod Steps
pub mod Storing
