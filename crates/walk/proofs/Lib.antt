pub mod Rules
pub mod Walks
pub mod Chain
pub mod Collecting
pub mod Readings
