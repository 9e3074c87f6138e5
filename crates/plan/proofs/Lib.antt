pub mod Waiting
pub mod Stepping
pub mod Finding
