pub mod Seeking
pub mod Overlaying
pub mod Nearing
pub mod Refusing
pub mod Filling
pub mod Unique
