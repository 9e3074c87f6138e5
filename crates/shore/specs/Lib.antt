pub mod File
pub mod Cover
