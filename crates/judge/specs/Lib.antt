pub mod Fits
pub mod Answers
