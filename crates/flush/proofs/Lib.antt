pub mod Batching
pub mod Starting
pub mod Unique
