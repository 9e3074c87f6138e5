-- What the script's readers promise.
pub mod Within
pub mod Digits
pub mod Lines
pub mod Spaces
pub mod Laid
