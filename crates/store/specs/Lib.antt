pub mod Steps
pub mod Store
pub mod Storing
