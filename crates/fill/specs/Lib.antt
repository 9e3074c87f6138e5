pub mod Overlay
pub mod Answers
