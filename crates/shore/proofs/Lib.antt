pub mod Files
pub mod Covering
pub mod Again
