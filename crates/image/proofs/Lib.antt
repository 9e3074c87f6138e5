pub mod Stored
pub mod Images
